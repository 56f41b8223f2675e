-- The pending job of row i ends in time by fixed priority: what each call does to the time by which it ends. Assumes
-- nothing.
use Rattle.std.proofs.Common.{◌≡◌, ℕ, ◌+◌, ◌-◌, ◌<◌, ◌≤◌, eqb, ltb, ◌⊎◌, List, length, take, Some, None, Option, sym, refl, ap, ◌∙◌, subst, inl, inr, ⊎_elim, arith}
use Rattle.std.specs.List.{AllByRecursion}
use Rattle.std.proofs.lemmas.List.{get_or-map}
use Rattle.std.proofs.lemmas.Bool.{cases_lt, cases_eq, cases_order, cond_both, eqb-true, ltb-true}
use Rattle.supply.specs.declared.grant.Grant.{Grant}
use Rattle.supply.specs.declared.grant.Grant.TheVariants as grant
use Rattle.supply.specs.Grants.{spent}
use Rattle.dispatch.specs.declared.job.Active.{Active}
use Rattle.dispatch.specs.declared.job.RowState.{RowState}
use Rattle.dispatch.specs.Jobs.{no_state, state_at, with_active, change, new_job, released, cleared}
use Rattle.dispatch.specs.Ticks.{Goes, first, worked, served, kept, struck, late}
use Rattle.dispatch.specs.Orderly.{Orderly, OrderlyJob}
use Rattle.dispatch.proofs.Lists.{At, get_or-change_same, get_or-change_other}
use Rattle.dispatch.proofs.Chosen.{Free, chosen_at, chosen_row}
use Rattle.dispatch.proofs.Keeping.{orderly_at}
use Rattle.soundness.proofs.Weights.{remaining}
use Rattle.soundness.proofs.Orders.{ByRow, From, chosen_from_all, free_before, free_at_before}
use Rattle.soundness.proofs.Regular.{chosen_orderly}
use Rattle.soundness.proofs.Room.{load, load-struck, load_past, load-cleared, load-released, load-worked, load_counted, Covers, covers_less, covers_tick}

-- a tick in the order of the rows

-- no job of a row before the chosen one is pending
chosen_from_row : (goes : Goes) → ByRow goes → (rows : List RowState) (a : Active) → first goes rows ≡ Some a → AllByRecursion (λ r. From (λ j. j.row) a.job.row r.active) rows
chosen_from_row goes by rows a is = chosen_from_all (λ j. j.row) goes by a.job.row rows (subst (From (λ j. j.row) a.job.row) (sym is) (omega arith))

-- none at all is pending where none is chosen
none_from_row : (goes : Goes) → ByRow goes → (rows : List RowState) (n : ℕ) → first goes rows ≡ None → AllByRecursion (λ r. From (λ j. j.row) n r.active) rows
none_from_row goes by rows n is = chosen_from_all (λ j. j.row) goes by n rows (subst (From (λ j. j.row) n) (sym is) tt)

-- a granted tick runs a job of a row before row i, or none of these is pending
pub served-load : (goes : Goes) → ByRow goes → (i clock : ℕ) (rows : List RowState) → Orderly clock 1 rows → (g : Grant) (p : Option Active) → first goes rows ≡ p
    → ((e : ℕ) → load i e clock (served g p rows) + spent g ≤ load i e clock rows) ⊎ AllByRecursion Free (take i rows)
served-load goes by i clock rows orderly grant.Withheld p is = inl (λ e. omega arith)
served-load goes by i clock rows orderly grant.Granted None is = inr (free_before clock 1 (i + 1) i rows (omega arith) orderly (none_from_row goes by rows (i + 1) is))
served-load goes by i clock rows orderly grant.Granted (Some a) is =
    ⊎_elim
    (λ before. inl (λ e. load_counted i e clock (a.job.row - 1) a before (chosen_orderly goes clock rows a orderly is).6 rows (chosen_at goes clock rows a orderly is)))
    (λ past. inr (free_before clock 1 a.job.row i rows (omega (arith, (chosen_row goes clock rows a orderly is).2)) orderly (chosen_from_row goes by rows a is)))
    (cases_lt (a.job.row - 1) i)

-- whatever it runs, the load does not rise
pub load-served : (goes : Goes) (i e clock c : ℕ) (rows : List RowState) → Orderly clock 1 rows → (g : Grant) (p : Option Active) → first goes rows ≡ p
    → load i e c (served g p rows) ≤ load i e c rows
load-served goes i e clock c rows orderly grant.Withheld p is = omega arith
load-served goes i e clock c rows orderly grant.Granted None is = omega arith
load-served goes i e clock c rows orderly grant.Granted (Some a) is = load-worked i e c (a.job.row - 1) a rows (chosen_at goes clock rows a orderly is)

-- a change of another row leaves row i's job
other_active : (g : RowState → RowState) (k i : ℕ) → (k ≡ i → ⊥) → (rows : List RowState) → (state_at (change g k rows) i).active ≡ (state_at rows i).active
other_active g k i other rows = ap (λ (r : RowState). r.active) (get_or-change_other g no_state k i other rows)

-- the pending job of row i ends by some e within t ticks of its release, and that is before it is due
abbrev pub Ends : {S : Type 0} → (S → ℕ → ℕ) → ℕ → ℕ → S → ℕ → List RowState → Option Active → Type 0
Ends floor i t s clock rows None = Unit {0}
Ends floor i t s clock rows (Some a) = (a.job.release + t ≤ a.job.deadline) × Covers floor i s clock rows (remaining a) (a.job.release + t)

module _ {S : Type 0} (floor : S → ℕ → ℕ) (i t : ℕ) where
  ends_less : (s : S) (c : ℕ) (rows fewer : List RowState) → ((e : ℕ) → c < e → load i e c fewer ≤ load i e c rows) → (o : Option Active)
      → Ends floor i t s c rows o → Ends floor i t s c fewer o
  ends_less s c rows fewer le None ends = tt
  ends_less s c rows fewer le (Some a) ends =
      (ends.0, covers_less floor i s c rows fewer (remaining a) (remaining a) (a.job.release + t) (λ e lt. omega (arith, le e lt)) ends.1)

  ends_kept : (s : S) (c d : ℕ) (rows : List RowState) (o : Option Active) → Ends floor i t s c rows o → Ends floor i t s c rows (kept d o)
  ends_kept s c d rows None ends = tt
  ends_kept s c d rows (Some a) ends = cond_both (eqb a.job.deadline d) None (Some a) (Ends floor i t s c rows) (λ _. tt) (λ _. ends)

  -- a job that ends after c is not struck off at c
  pub ends_late : (s : S) (c : ℕ) (rows : List RowState) (o : Option Active) → Ends floor i t s c rows o → late c o ≡ 0
  ends_late s c rows None ends = refl
  ends_late s c rows (Some a) ends =
      cond_both (eqb a.job.deadline c) 1 0 (λ n. n ≡ 0)
      (λ due. absurd (omega (arith, eqb-true a.job.deadline c due, ends.0, ends.1.1, ends.1.2)))
      (λ _. refl)

  -- a tick that goes from the supply's state s to `later`
  module _ (s later : S) (g : Grant) (c : ℕ) (pays : (e : ℕ) → c < e → floor s (e - c) ≤ floor later (e - (c + 1)) + spent g) (empty : floor later 0 ≡ 0)
      (rows : List RowState) where
    -- row i's job does not run
    ends_waiting : (mid : List RowState) → ((e : ℕ) → load i e c mid + spent g ≤ load i e c rows) → (o : Option Active) → OrderlyJob c (i + 1) (state_at rows i) o
        → Ends floor i t s c rows o → Ends floor i t later (c + 1) mid o
    ends_waiting mid le None job ends = tt
    ends_waiting mid le (Some a) job ends =
        (ends.0, covers_tick floor i s later g c pays empty rows mid (remaining a) (remaining a) (a.job.release + t) (omega (arith, job.6)) (λ e. omega (arith, le e)) ends.1)

    -- row i's job runs
    ends_worked : (mid : List RowState) → ((e : ℕ) → load i e c mid ≡ load i e c rows) → spent g ≡ 1 → (a : Active)
        → Ends floor i t s c rows (Some a) → Ends floor i t later (c + 1) mid (worked a)
    ends_worked mid same one a ends =
        cond_both (ltb (a.ran + 1) a.cost) (Some (record { job = a.job; cost = a.cost; ran = a.ran + 1 })) None (Ends floor i t later (c + 1) mid)
        (λ test.
        let more : a.ran + 1 < a.cost = ltb-true (a.ran + 1) a.cost test in
        (ends.0, covers_tick floor i s later g c pays empty rows mid (remaining a) (a.cost - (a.ran + 1)) (a.job.release + t) (omega arith) (λ e. omega (arith, same e)) ends.1))
        (λ _. tt)

  -- row i after the tick's work is credited, before any job is struck off
  pub ends_served : (goes : Goes) → ByRow goes → (s later : S) (g : Grant) (p : Option Active) (c : ℕ) → ((e : ℕ) → c < e → floor s (e - c) ≤ floor later (e - (c + 1)) + spent g) → floor later 0 ≡ 0
      → (rows : List RowState) → Orderly c 1 rows → i < length rows → first goes rows ≡ p
      → Ends floor i t s c rows (state_at rows i).active → Ends floor i t later (c + 1) (served g p rows) (state_at (served g p rows) i).active
  ends_served goes by s later grant.Withheld p c pays empty rows orderly there is ends =
      ends_waiting s later grant.Withheld c pays empty rows rows (λ e. omega arith) (state_at rows i).active (orderly_at c rows orderly i there) ends
  ends_served goes by s later grant.Granted None c pays empty rows orderly there is ends =
      let free = free_at_before c (i + 2) i rows there (omega arith) orderly (none_from_row goes by rows (i + 2) is) in
      subst (Ends floor i t later (c + 1) rows) (sym free) tt
  ends_served goes by s later grant.Granted (Some a) c pays empty rows orderly there is ends =
      ⊎_elim
      (λ here.
      let found : (state_at rows i).active ≡ Some a = ap (λ j. (state_at rows j).active) (sym here) ∙ row.1 in
      let new : (state_at mid i).active ≡ worked a = ap (λ j. (state_at mid j).active) (sym here) ∙ ap (λ (r : RowState). r.active) (get_or-change_same run no_state k rows row.0) in
      subst (Ends floor i t later (c + 1) mid) (sym new)
      (ends_worked s later grant.Granted c pays empty rows mid (λ e. load_past i e c k run rows (omega arith)) refl a (subst (Ends floor i t s c rows) found ends)))
      (⊎_elim
      (λ before.
      subst (Ends floor i t later (c + 1) mid) (sym (other_active run k i (λ e. omega arith) rows))
      (ends_waiting s later grant.Granted c pays empty rows mid (λ e. load_counted i e c k a before (chosen_orderly goes c rows a orderly is).6 rows (chosen_at goes c rows a orderly is))
      (state_at rows i).active (orderly_at c rows orderly i there) ends))
      (λ past.
      let free = free_at_before c a.job.row i rows there (omega arith) orderly (chosen_from_row goes by rows a is) in
      subst (Ends floor i t later (c + 1) mid) (sym (other_active run k i (λ e. omega arith) rows ∙ free)) tt))
      (cases_order k i)
    where
      k : ℕ
      k = a.job.row - 1

      run : RowState → RowState
      run = with_active (worked a)

      mid : List RowState
      mid = change run k rows

      row : (k < length rows) × ((state_at rows k).active ≡ Some a) × (1 ≤ a.job.row)
      row = chosen_row goes c rows a orderly is

  -- and after the jobs that are due are struck off
  pub ends_struck : (s : S) (c d : ℕ) (rows : List RowState) → i < length rows
      → Ends floor i t s c rows (state_at rows i).active → Ends floor i t s c (struck d rows) (state_at (struck d rows) i).active
  ends_struck s c d rows there ends =
      let strike : RowState → RowState = λ r. with_active (kept d r.active) r in
      let new : (state_at (struck d rows) i).active ≡ kept d (state_at rows i).active = ap (λ (r : RowState). r.active) (get_or-map strike rows i no_state no_state there) in
      subst (Ends floor i t s c (struck d rows)) (sym new)
      (ends_less s c rows (struck d rows) (λ e lt. load-struck i e c d rows) (kept d (state_at rows i).active) (ends_kept s c d rows (state_at rows i).active ends))

  -- a release of row i takes the room that it finds
  pub ends_released : (s : S) (c n k : ℕ) (rows : List RowState) → i < length rows → At (λ r. r.next ≤ c) k rows
      → Covers floor i s c rows (state_at rows i).row.cost (c + t) → t ≤ (state_at rows i).row.deadline
      → Ends floor i t s c rows (state_at rows i).active → Ends floor i t s c (change (released n c) k rows) (state_at (change (released n c) k rows) i).active
  ends_released s c n k rows there at room within ends =
      let new : List RowState = change (released n c) k rows in
      ⊎_elim
      (λ here.
      let own : (state_at new i).active ≡ Some (new_job n c (state_at rows i).row) =
      ap (λ j. (state_at (change (released n c) j rows) i).active) here ∙ ap (λ (r : RowState). r.active) (get_or-change_same (released n c) no_state i rows there) in
      subst (Ends floor i t s c new) (sym own)
      (omega arith, covers_less floor i s c rows new (state_at rows i).row.cost ((state_at rows i).row.cost - 0) (c + t) (λ e lt. omega (arith, load_past i e c k (released n c) rows (omega arith))) room))
      (λ other.
      subst (Ends floor i t s c new) (sym (other_active (released n c) k i other rows)) (ends_less s c rows new (λ e lt. load-released i e c n k lt rows at) (state_at rows i).active ends))
      (cases_eq k i)

  pub ends_cleared : (s : S) (c k : ℕ) (rows : List RowState) → i < length rows
      → Ends floor i t s c rows (state_at rows i).active → Ends floor i t s c (change cleared k rows) (state_at (change cleared k rows) i).active
  ends_cleared s c k rows there ends =
      let new : List RowState = change cleared k rows in
      ⊎_elim
      (λ here.
      let own : (state_at new i).active ≡ None = ap (λ j. (state_at (change cleared j rows) i).active) here ∙ ap (λ (r : RowState). r.active) (get_or-change_same cleared no_state i rows there) in
      subst (Ends floor i t s c new) (sym own) tt)
      (λ other.
      subst (Ends floor i t s c new) (sym (other_active cleared k i other rows)) (ends_less s c rows new (λ e lt. load-cleared i e c k rows) (state_at rows i).active ends))
      (cases_eq k i)
