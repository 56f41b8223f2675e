-- The work that the rows before row i may still ask for, and the room that a supply leaves beside it. Assumes nothing.
use Rattle.std.proofs.Common.{◌≡◌, ℕ, ◌+◌, ◌-◌, ◌<◌, ◌≤◌, List, take, sym, refl, ap, ◌∙◌, subst, ⊎_elim, sum_by, arith}
use Rattle.std.specs.List.{AllByRecursion}
use Rattle.std.proofs.lemmas.List.{length-take, take-map}
use Rattle.std.proofs.lemmas.Bool.{cases_lt}
use Rattle.supply.specs.declared.grant.Grant.{Grant}
use Rattle.supply.specs.Grants.{spent}
use Rattle.table.specs.declared.row.Row.{Row}
use Rattle.table.specs.Sums.{requested, workload, row_at}
use Rattle.dispatch.specs.declared.job.Active.{Active}
use Rattle.dispatch.specs.declared.job.RowState.{RowState}
use Rattle.dispatch.specs.Jobs.{with_active, change, released, cleared}
use Rattle.dispatch.specs.Ticks.{worked, kept, struck}
use Rattle.dispatch.proofs.Lists.{At, change_past}
use Rattle.dispatch.proofs.Chosen.{Free, Has}
use Rattle.dispatch.proofs.Rows.{table_rows}
use Rattle.soundness.proofs.Sums.{take-change, at_take}
use Rattle.soundness.proofs.Weights.{wanted, all_work, asked, sum_by_later, sum_by-struck, sum_by_cleared, sum_by-released, sum_by-worked, sum_by_counted, sum_by_quiet}

-- what the rows before row i, counted from 0, may ask for before e from this clock on
abbrev pub load : ℕ → ℕ → ℕ → List RowState → ℕ
load i e clock rows = sum_by (asked (all_work e) clock) (take i rows)

pub load_later : (i e c d : ℕ) → c ≤ d → (rows : List RowState) → load i e d rows ≤ load i e c rows
load_later i e c d le rows = sum_by_later (all_work e) c d le (take i rows)

pub load-struck : (i e c d : ℕ) (rows : List RowState) → load i e c (struck d rows) ≤ load i e c rows
load-struck i e c d rows =
    let front = ap (sum_by (asked (all_work e) c)) (take-map (λ (r : RowState). with_active (kept d r.active) r) i rows) in
    omega (arith, sum_by-struck (all_work e) c d (take i rows))

-- a change of row i or of one after it leaves the load as it is
pub load_past : (i e c k : ℕ) (g : RowState → RowState) (rows : List RowState) → i ≤ k → load i e c (change g k rows) ≡ load i e c rows
load_past i e c k g rows past = ap (sum_by (asked (all_work e) c)) (take-change g k i rows ∙ change_past g (take i rows) k (omega (arith, length-take i rows)))

pub load-cleared : (i e c k : ℕ) (rows : List RowState) → load i e c (change cleared k rows) ≤ load i e c rows
load-cleared i e c k rows =
    let front = ap (sum_by (asked (all_work e) c)) (take-change cleared k i rows) in
    omega (arith, sum_by_cleared (all_work e) c k (take i rows))

pub load-released : (i e c n k : ℕ) → c < e → (rows : List RowState) → At (λ r. r.next ≤ c) k rows → load i e c (change (released n c) k rows) ≤ load i e c rows
load-released i e c n k lt rows at =
    ⊎_elim
    (λ before.
    let front = ap (sum_by (asked (all_work e) c)) (take-change (released n c) k i rows) in
    omega (arith, sum_by-released (all_work e) n c k lt (take i rows) (at_take (λ r. r.next ≤ c) k i rows before at)))
    (λ past. omega (arith, load_past i e c k (released n c) rows past))
    (cases_lt k i)

pub load-worked : (i e c k : ℕ) (a : Active) (rows : List RowState) → At (Has a) k rows → load i e c (change (with_active (worked a)) k rows) ≤ load i e c rows
load-worked i e c k a rows at =
    ⊎_elim
    (λ before.
    let front = ap (sum_by (asked (all_work e) c)) (take-change (with_active (worked a)) k i rows) in
    omega (arith, sum_by-worked (all_work e) c k a (take i rows) (at_take (Has a) k i rows before at)))
    (λ past. omega (arith, load_past i e c k (with_active (worked a)) rows past))
    (cases_lt k i)

-- a job of a row before row i that runs is one tick less
pub load_counted : (i e c k : ℕ) (a : Active) → k < i → a.ran < a.cost → (rows : List RowState) → At (Has a) k rows
    → load i e c (change (with_active (worked a)) k rows) + 1 ≤ load i e c rows
load_counted i e c k a before lt rows at =
    let front = ap (sum_by (asked (all_work e) c)) (take-change (with_active (worked a)) k i rows) in
    omega (arith, sum_by_counted (all_work e) c k a refl lt (take i rows) (at_take (Has a) k i rows before at))

-- where nothing is pending before row i, the load is what can be released
pub load_free : (i e c : ℕ) (rows : List RowState) → AllByRecursion Free (take i rows) → load i e c rows ≤ requested (take i (table_rows rows)) (e - c)
unfolding requested
load_free i e c rows free =
    let front = ap (sum_by ((all_work e).future (e - c))) (take-map (λ (r : RowState). r.row) i rows) in
    omega (arith, sum_by_quiet (all_work e) Free (λ r none. ap (wanted (all_work e).counts) none) c (take i rows) free)

-- by some e within the limit the supply has room for this work beside the load
abbrev pub Covers : {S : Type 0} → (S → ℕ → ℕ) → ℕ → S → ℕ → List RowState → ℕ → ℕ → Type 0
Covers floor i s clock rows work limit = (e : ℕ) × (clock < e) × (e ≤ limit) × (work + load i e clock rows ≤ floor s (e - clock))

module _ {S : Type 0} (floor : S → ℕ → ℕ) (i : ℕ) where
  -- less work has room
  pub covers_less : (s : S) (c : ℕ) (rows fewer : List RowState) (work less limit : ℕ) → ((e : ℕ) → c < e → less + load i e c fewer ≤ work + load i e c rows)
      → Covers floor i s c rows work limit → Covers floor i s c fewer less limit
  covers_less s c rows fewer work less limit le covers = (covers.0, covers.1, covers.2, omega (arith, covers.3, le covers.0 covers.1))

  -- after a tick, work that is no more than before but for the tick that was granted
  pub covers_tick : (s later : S) (g : Grant) (c : ℕ) → ((e : ℕ) → c < e → floor s (e - c) ≤ floor later (e - (c + 1)) + spent g) → floor later 0 ≡ 0
      → (rows mid : List RowState) (work less limit : ℕ) → 1 ≤ less → ((e : ℕ) → less + load i e c mid + spent g ≤ work + load i e c rows)
      → Covers floor i s c rows work limit → Covers floor i later (c + 1) mid less limit
  covers_tick s later g c pays empty rows mid work less limit some le covers =
      let e : ℕ = covers.0 in
      let owed : less + load i e (c + 1) mid ≤ floor later (e - (c + 1)) = omega (arith, covers.3, pays e covers.1, le e, load_later i e c (c + 1) (omega arith) mid) in
      (e, ⊎_elim (λ ahead. ahead) (λ past. absurd (omega (arith, ap (floor later) (over e past)))) (cases_lt (c + 1) e), covers.2, owed)
    where
      over : (e : ℕ) → e ≤ c + 1 → e - (c + 1) ≡ 0
      over e past = omega arith

  -- room for a new job where nothing is pending before row i
  pub covers_new : (s : S) (c : ℕ) (rows : List RowState) (rs : List Row) (t : ℕ) → 1 ≤ t → workload rs i t ≤ floor s t → load i (c + t) c rows ≤ requested (take i rs) (c + t - c)
      → Covers floor i s c rows (row_at rs i).cost (c + t)
  unfolding workload
  covers_new s c rows rs t some met most =
      let same : c + t - c ≡ t = omega arith in
      let within : (row_at rs i).cost + load i (c + t) c rows ≤ floor s t = omega (arith, ap (requested (take i rs)) same) in
      (c + t, omega arith, omega arith, subst (λ n. (row_at rs i).cost + load i (c + t) c rows ≤ floor s n) (sym same) within)
