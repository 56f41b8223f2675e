-- What a tick makes of each pending job: it stays with the work that it was given, or it ends, or it is struck off.
-- Assumes nothing.
use Rattle.std.proofs.Common.{◌≡◌, ℕ, ◌+◌, ◌-◌, ◌<◌, ◌≤◌, Bool, true, false, cond, eqb, ltb, List, length, Some, None, Option, sym, refl, ap, ◌∙◌, subst, subst₂, inl, inr, ⊎_elim, arith}
use Rattle.std.proofs.lemmas.List.{get_or-map}
use Rattle.std.proofs.lemmas.Bool.{cases_eq, eq-eqb, ne_eqb, eqb-true, eqb-false, ltb-true, ltb-false}
use Rattle.supply.specs.declared.grant.Grant.{Grant}
use Rattle.supply.specs.declared.grant.Grant.TheVariants as grant
use Rattle.dispatch.specs.declared.job.Active.{Active}
use Rattle.dispatch.specs.declared.job.RowState.{RowState}
use Rattle.dispatch.specs.declared.reply.Progress.{Progress}
use Rattle.dispatch.specs.declared.reply.Progress.TheVariants.{Ran, Ended}
use Rattle.dispatch.specs.Progresses.{progress_row}
use Rattle.dispatch.specs.Jobs.{no_state, state_at, with_active, change}
use Rattle.dispatch.specs.Ticks.{Goes, first, worked, served, progress, kept, struck}
use Rattle.dispatch.specs.Runs.{RunState, credited, progressed, passed}
use Rattle.dispatch.specs.Orderly.{Orderly, OrderlyJob}
use Rattle.dispatch.specs.Laws.{work_of, Passes, Lives, JobsLive}
use Rattle.dispatch.proofs.Lists.{get_or-change_same, get_or-change_other}
use Rattle.dispatch.proofs.Chosen.{chosen_row}
use Rattle.dispatch.proofs.Keeping.{orderly_at}
use Rattle.dispatch.proofs.Rows.{length-served}

-- the same job with more work done
abbrev with_ran : ℕ → Active → Active
with_ran n a = record { job = a.job; cost = a.cost; ran = n }

-- a job that still wants ticks stays or is struck off
stays_or_struck : (t : Bool) (n clock : ℕ) (p : Progress) (a : Active) (ran : ℕ) → eqb a.job.deadline (clock + 1) ≡ t
    → ran ≡ a.ran + work_of n p → ran < a.cost → clock < a.job.deadline
    → Passes n (clock + 1) p a (cond t None (Some (with_ran ran a)))
stays_or_struck true n clock p a ran test more wants soon =
    inr (inr (refl, omega arith, sym (eqb-true a.job.deadline (clock + 1) test)))
stays_or_struck false n clock p a ran test more wants soon =
    let apart : a.job.deadline ≡ clock + 1 → ⊥ = eqb-false a.job.deadline (clock + 1) test in
    inl (ap (λ m. Some (with_ran m a)) more, omega arith, omega (arith, apart))

-- a row in which no job runs
lives_waiting : (n clock : ℕ) (p : Progress) (r : RowState) (o : Option Active) → eqb (progress_row p) n ≡ false → OrderlyJob clock n r o
    → Lives n (clock + 1) p o (kept (clock + 1) o)
lives_waiting n clock p r None other own = refl
lives_waiting n clock p r (Some a) other own =
    let none : work_of n p ≡ 0 = ap (λ (t : Bool). cond t 1 0) other in
    stays_or_struck (eqb a.job.deadline (clock + 1)) n clock p a a.ran refl (omega arith) own.6 own.4

-- the row whose job runs
lives_working : (t : Bool) (n clock : ℕ) (r : RowState) (a : Active) → ltb (a.ran + 1) a.cost ≡ t → OrderlyJob clock n r (Some a)
    → Lives n (clock + 1) (cond t (Ran a.job.row) (Ended a.job.row (clock + 1 - a.job.release))) (Some a) (kept (clock + 1) (cond t (Some (with_ran (a.ran + 1) a)) None))
lives_working true n clock r a test own =
    let one : work_of n (Ran a.job.row) ≡ 1 = ap (λ (t : Bool). cond t 1 0) (eq-eqb a.job.row n own.0) in
    stays_or_struck (eqb a.job.deadline (clock + 1)) n clock (Ran a.job.row) a (a.ran + 1) refl (omega arith) (ltb-true (a.ran + 1) a.cost test) own.4
lives_working false n clock r a test own =
    let last : a.cost ≤ a.ran + 1 = ltb-false (a.ran + 1) a.cost test in
    let age : ℕ = clock + 1 - a.job.release in
    let one : work_of n (Ended a.job.row age) ≡ 1 = ap (λ (t : Bool). cond t 1 0) (eq-eqb a.job.row n own.0) in
    inr (inl (refl, omega (arith, own.6), ap (λ m. Ended m age) own.0))

-- every row
module _ (goes : Goes) (clock : ℕ) (rows : List RowState) (orderly : Orderly clock 1 rows) (k : ℕ) (lt : k < length rows) where
  lives_served : (g : Grant) (p : Option Active) → first goes rows ≡ p
      → Lives (k + 1) (clock + 1) (progress g p (clock + 1)) (state_at rows k).active (kept (clock + 1) (state_at (served g p rows) k).active)
  lives_served grant.Withheld p e =
      lives_waiting (k + 1) clock (progress grant.Withheld p (clock + 1)) (state_at rows k) (state_at rows k).active (ne_eqb 0 (k + 1) (λ z. omega arith)) (orderly_at clock rows orderly k lt)
  lives_served grant.Granted None e =
      lives_waiting (k + 1) clock (progress grant.Granted None (clock + 1)) (state_at rows k) (state_at rows k).active (ne_eqb 0 (k + 1) (λ z. omega arith)) (orderly_at clock rows orderly k lt)
  lives_served grant.Granted (Some a) e =
      let chosen = chosen_row goes clock rows a orderly e in
      let own = orderly_at clock rows orderly k lt in
      let now : Progress = progress grant.Granted (Some a) (clock + 1) in
      let row_of : progress_row now ≡ a.job.row = row_either (ltb (a.ran + 1) a.cost) a.job.row (clock + 1 - a.job.release) in
      ⊎_elim
      (λ same.
      let place : a.job.row - 1 ≡ k = omega arith in
      let has : (state_at rows k).active ≡ Some a = subst (λ m. (state_at rows m).active ≡ Some a) place chosen.1 in
      let after : (state_at (change (with_active (worked a)) (a.job.row - 1) rows) k).active ≡ worked a =
      ap (λ m. (state_at (change (with_active (worked a)) m rows) k).active) place ∙ ap (λ (r : RowState). r.active) (get_or-change_same (with_active (worked a)) no_state k rows lt) in
      subst₂ (λ o o'. Lives (k + 1) (clock + 1) now o (kept (clock + 1) o')) (sym has) (sym after)
      (lives_working (ltb (a.ran + 1) a.cost) (k + 1) clock (state_at rows k) a refl (subst (OrderlyJob clock (k + 1) (state_at rows k)) has own)))
      (λ other.
      let apart : a.job.row - 1 ≡ k → ⊥ = λ z. other (omega (arith, chosen.2)) in
      let after : state_at (change (with_active (worked a)) (a.job.row - 1) rows) k ≡ state_at rows k =
      get_or-change_other (with_active (worked a)) no_state (a.job.row - 1) k apart rows in
      subst (λ (r : RowState). Lives (k + 1) (clock + 1) now (state_at rows k).active (kept (clock + 1) r.active)) (sym after)
      (lives_waiting (k + 1) clock now (state_at rows k) (state_at rows k).active (ap (λ m. eqb m (k + 1)) row_of ∙ ne_eqb a.job.row (k + 1) other) own))
      (cases_eq a.job.row (k + 1))
    where
      row_either : (t : Bool) (row age : ℕ) → progress_row (cond t (Ran row) (Ended row age)) ≡ row
      row_either true row age = refl
      row_either false row age = refl

pub jobs_live : {S : Type 0} (step : S → Bool → (Grant × S)) (goes : Goes) (offer : Bool) (st : RunState S) → Orderly st.clock 1 st.rows
    → JobsLive (st.clock + 1) (progressed step goes offer st) st.rows (passed step goes offer st).rows
jobs_live step goes offer st orderly k lt =
    let g : Grant = (step st.supply offer).0 in
    let there : k < length (credited step goes offer st) = omega (arith, length-served g (first goes st.rows) st.rows) in
    let after : (state_at (struck (st.clock + 1) (credited step goes offer st)) k).active ≡ kept (st.clock + 1) (state_at (credited step goes offer st) k).active =
    ap (λ (r : RowState). r.active) (get_or-map (λ (r : RowState). with_active (kept (st.clock + 1) r.active) r) (credited step goes offer st) k no_state no_state there) in
    subst (Lives (k + 1) (st.clock + 1) (progressed step goes offer st) (state_at st.rows k).active) (sym after)
    (lives_served goes st.clock st.rows orderly k lt g (first goes st.rows) refl)
