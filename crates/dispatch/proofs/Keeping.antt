-- Every call keeps the rows orderly. Assumes nothing.
use Rattle.std.proofs.Common.{◌≡◌, ℕ, zero, suc, ◌+◌, ◌-◌, ◌<◌, ◌≤◌, Bool, true, false, cond, eqb, ltb, List, [], ◌∷◌, map, length, Some, None, Option, sym, refl, subst, arith}
use Rattle.std.proofs.Math.Logic.{∥∥₁_elim}
use Rattle.std.proofs.Math.Nat.{ℕ_set}
use Rattle.std.proofs.Math.Bridge.{le_prop}
use Rattle.std.proofs.lemmas.Bool.{eqb-false, ltb-true}
use Rattle.supply.specs.declared.grant.Grant.{Grant}
use Rattle.supply.specs.declared.grant.Grant.TheVariants as grant
use Rattle.table.specs.declared.row.Row.{Row}
use Rattle.dispatch.specs.declared.call.Call.{Call}
use Rattle.dispatch.specs.declared.call.Call.TheVariants as call
use Rattle.dispatch.specs.declared.job.Active.{Active}
use Rattle.dispatch.specs.declared.job.RowState.{RowState}
use Rattle.dispatch.specs.Jobs.{new_row, state_at, with_active, change, released, cleared}
use Rattle.dispatch.specs.Ticks.{Goes, first, worked, served, kept, struck}
use Rattle.dispatch.specs.Runs.{RunState, with_rows, release_answer, end_answer, tick_answer, passed, after}
use Rattle.dispatch.specs.Orderly.{Orderly, OrderlyJob}
use Rattle.dispatch.proofs.Lists.{At}
use Rattle.dispatch.proofs.Chosen.{Has, chosen_at}
use Rattle.dispatch.proofs.Accepted.{unless_refused_both, release_accepted}

-- each row by its number

orderly_from : (clock i k n : ℕ) (rows : List RowState) → n ≡ i + k → k < length rows → Orderly clock i rows
    → OrderlyJob clock n (state_at rows k) (state_at rows k).active
orderly_from clock i k n [] e lt orderly = absurd (omega arith)
orderly_from clock i zero n (r ∷ rows) e lt orderly = let same : i ≡ n = omega arith in subst (λ m. OrderlyJob clock m r r.active) same orderly.0
orderly_from clock i (suc k) n (r ∷ rows) e lt orderly = orderly_from clock (suc i) k n rows (omega arith) (omega arith) orderly.1

pub orderly_at : (clock : ℕ) (rows : List RowState) → Orderly clock 1 rows → (k : ℕ) → k < length rows
    → OrderlyJob clock (k + 1) (state_at rows k) (state_at rows k).active
orderly_at clock rows orderly k lt = orderly_from clock 1 k (k + 1) rows (omega arith) lt orderly

free_job : (clock n : ℕ) (r : RowState) (o : Option Active) → OrderlyJob clock n r o → r.next ≤ clock → o ≡ None
free_job clock n r None own due = refl
free_job clock n r (Some a) own due = let row : Row = r.row in absurd (omega (arith, row.time, own.1, own.2, own.4))

-- a row whose next release is accepted has nothing pending: its last job was due before
pub free_at : (clock : ℕ) (rows : List RowState) → Orderly clock 1 rows → (k : ℕ) → k < length rows → (state_at rows k).next ≤ clock
    → (state_at rows k).active ≡ None
free_at clock rows orderly k lt due = free_job clock (k + 1) (state_at rows k) (state_at rows k).active (orderly_at clock rows orderly k lt) due

-- a change of the row with number n

orderly_change : (Q : RowState → Type 0) (g : RowState → RowState) (clock i k n : ℕ) (rows : List RowState) → n ≡ i + k
    → ((r : RowState) → Q r → OrderlyJob clock n r r.active → OrderlyJob clock n (g r) (g r).active)
    → At Q k rows → Orderly clock i rows → Orderly clock i (change g k rows)
orderly_change Q g clock i k n [] e new at orderly = tt
orderly_change Q g clock i zero n (r ∷ rows) e new at orderly =
    let same : i ≡ n = omega arith in
    let own = subst (λ m. OrderlyJob clock m r r.active) same orderly.0 in
    (subst (λ m. OrderlyJob clock m (g r) (g r).active) (sym same) (new r at own), orderly.1)
orderly_change Q g clock i (suc k) n (r ∷ rows) e new at orderly =
    (orderly.0, orderly_change Q g clock (suc i) k n rows (omega arith) new at orderly.1)

-- the same where any row may be changed
orderly_change_any : (g : RowState → RowState) (clock i k n : ℕ) (rows : List RowState) → n ≡ i + k
    → ((r : RowState) → OrderlyJob clock n (g r) (g r).active) → Orderly clock i rows → Orderly clock i (change g k rows)
orderly_change_any g clock i k n [] e new orderly = tt
orderly_change_any g clock i zero n (r ∷ rows) e new orderly =
    let same : n ≡ i = omega arith in
    (subst (λ m. OrderlyJob clock m (g r) (g r).active) same (new r), orderly.1)
orderly_change_any g clock i (suc k) n (r ∷ rows) e new orderly = (orderly.0, orderly_change_any g clock (suc i) k n rows (omega arith) new orderly.1)

-- a new run, a release and an end

orderly_new : (clock i : ℕ) (rs : List Row) → Orderly clock i (map new_row rs)
orderly_new clock i [] = tt
orderly_new clock i (r ∷ rs) = (tt, orderly_new clock (suc i) rs)

pub orderly_fresh : (rs : List Row) → Orderly 0 1 (map new_row rs)
orderly_fresh rs = orderly_new 0 1 rs

pub orderly_released : (clock i : ℕ) (rows : List RowState) → 1 ≤ i → Orderly clock 1 rows → Orderly clock 1 (change (released i clock) (i - 1) rows)
orderly_released clock i rows some orderly =
    orderly_change_any (released i clock) clock 1 (i - 1) i rows (omega arith) (λ r. (refl, refl, refl, omega arith, omega arith, refl, omega arith)) orderly

pub orderly_cleared : (clock k : ℕ) (rows : List RowState) → Orderly clock 1 rows → Orderly clock 1 (change cleared k rows)
orderly_cleared clock k rows orderly = orderly_change_any cleared clock 1 k (1 + k) rows refl (λ r. tt) orderly

-- a tick: the chosen job has run, and what is due is struck off

worked_job : (t : Bool) (clock n : ℕ) (r : RowState) (a : Active) → (t ≡ true → a.ran + 1 < a.cost) → OrderlyJob clock n r (Some a)
    → OrderlyJob clock n r (cond t (Some (record { job = a.job; cost = a.cost; ran = a.ran + 1 })) None)
worked_job true clock n r a more own = (own.0, own.1, own.2, own.3, own.4, own.5, more refl)
worked_job false clock n r a more own = tt

orderly_worked : (clock n : ℕ) (a : Active) (r : RowState) → Has a r → OrderlyJob clock n r r.active → OrderlyJob clock n (with_active (worked a) r) (worked a)
orderly_worked clock n a r has own =
    let this : OrderlyJob clock n (with_active (worked a) r) (Some a) = subst (OrderlyJob clock n r) has own in
    worked_job (ltb (a.ran + 1) a.cost) clock n (with_active (worked a) r) a (ltb-true (a.ran + 1) a.cost) this

served_chosen : (g : Grant) (p : Option Active) (goes : Goes) (clock : ℕ) (rows : List RowState) → first goes rows ≡ p
    → Orderly clock 1 rows → Orderly clock 1 (served g p rows)
served_chosen grant.Withheld p goes clock rows e orderly = orderly
served_chosen grant.Granted None goes clock rows e orderly = orderly
served_chosen grant.Granted (Some a) goes clock rows e orderly =
    orderly_change (Has a) (with_active (worked a)) clock 1 (a.job.row - 1) (1 + (a.job.row - 1)) rows refl
    (orderly_worked clock (1 + (a.job.row - 1)) a)
    (chosen_at goes clock rows a orderly e)
    orderly

pub orderly_served : (g : Grant) (goes : Goes) (clock : ℕ) (rows : List RowState) → Orderly clock 1 rows → Orderly clock 1 (served g (first goes rows) rows)
orderly_served g goes clock rows orderly = served_chosen g (first goes rows) goes clock rows refl orderly

kept_cond : (t : Bool) (clock n : ℕ) (r : RowState) (a : Active) → (t ≡ false → a.job.deadline ≡ clock + 1 → ⊥) → OrderlyJob clock n r (Some a)
    → OrderlyJob (clock + 1) n r (cond t None (Some a))
kept_cond true clock n r a due own = tt
kept_cond false clock n r a due own =
    let not_yet : clock + 1 < a.job.deadline = omega (arith, due refl, own.4) in
    (own.0, own.1, own.2, omega (arith, own.3), not_yet, own.5, own.6)

kept_job : (clock n : ℕ) (r : RowState) (o : Option Active) → OrderlyJob clock n r o → OrderlyJob (clock + 1) n r (kept (clock + 1) o)
kept_job clock n r None own = tt
kept_job clock n r (Some a) own = kept_cond (eqb a.job.deadline (clock + 1)) clock n r a (eqb-false a.job.deadline (clock + 1)) own

pub orderly_struck : (clock i : ℕ) (rows : List RowState) → Orderly clock i rows → Orderly (clock + 1) i (struck (clock + 1) rows)
orderly_struck clock i [] orderly = tt
orderly_struck clock i (r ∷ rows) orderly =
    (kept_job clock i (with_active (kept (clock + 1) r.active) r) r.active orderly.0, orderly_struck clock (suc i) rows orderly.1)

pub orderly_passed : (g : Grant) (goes : Goes) (clock : ℕ) (rows : List RowState) → Orderly clock 1 rows
    → Orderly (clock + 1) 1 (struck (clock + 1) (served g (first goes rows) rows))
orderly_passed g goes clock rows orderly = orderly_struck clock 1 (served g (first goes rows) rows) (orderly_served g goes clock rows orderly)

-- any call, and any list of calls

module _ {S : Type 0} (step : S → Bool → (Grant × S)) (goes : Goes) where
  abbrev OrderlyState : RunState S → Type 0
  OrderlyState st = Orderly st.clock 1 st.rows

  pub orderly_after : (c : Call) (st : RunState S) → Orderly st.clock 1 st.rows → Orderly (after step goes c st).clock 1 (after step goes c st).rows
  orderly_after (call.Release i) st orderly =
      unless_refused_both OrderlyState (release_answer i st) (with_rows st (change (released i st.clock) (i - 1) st.rows)) st
      (λ x is. orderly_released st.clock i st.rows (release_accepted i st x is).0 orderly)
      orderly
  orderly_after (call.End i) st orderly =
      unless_refused_both OrderlyState (end_answer i st) (with_rows st (change cleared (i - 1) st.rows)) st
      (λ age is. orderly_cleared st.clock (i - 1) st.rows orderly)
      orderly
  orderly_after (call.Tick offer) st orderly =
      unless_refused_both OrderlyState (tick_answer step goes offer st) (passed step goes offer st) st
      (λ t is. orderly_passed (step st.supply offer).0 goes st.clock st.rows orderly)
      orderly
  orderly_after call.Look st orderly = orderly
  orderly_after (call.Pending room) st orderly = orderly

-- there is at most one proof of it, so a truncated one does

orderly_job_prop : (clock n : ℕ) (r : RowState) (o : Option Active) → IsProp (OrderlyJob clock n r o)
orderly_job_prop clock n r None x y = refl
orderly_job_prop clock n r (Some a) x y = λ j. (
  ℕ_set _ _ x.0 y.0 j,
  ℕ_set _ _ x.1 y.1 j,
  ℕ_set _ _ x.2 y.2 j,
  le_prop x.3 y.3 j,
  le_prop x.4 y.4 j,
  ℕ_set _ _ x.5 y.5 j,
  le_prop x.6 y.6 j,
)

pub orderly_prop : (clock i : ℕ) (rows : List RowState) → IsProp (Orderly clock i rows)
orderly_prop clock i [] x y = refl
orderly_prop clock i (r ∷ rows) x y = λ j. (orderly_job_prop clock i r r.active x.0 y.0 j, orderly_prop clock (suc i) rows x.1 y.1 j)

pub orderly_out : (clock i : ℕ) (rows : List RowState) → ∥ Orderly clock i rows ∥₁ → Orderly clock i rows
orderly_out clock i rows orderly = ∥∥₁_elim orderly (orderly_prop clock i rows) (λ x. x)
