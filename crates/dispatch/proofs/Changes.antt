-- What an accepted release changes, and that no row has two jobs. Assumes nothing.
use Rattle.std.proofs.Common.{◌≡◌, ℕ, suc, ◌-◌, ◌<◌, ◌≤◌, ◌⊎◌, List, [], ◌∷◌, length, Some, None, Ok, Option, sym, refl, ap, ◌∙◌, subst, inl, inr, ⊎_elim, arith}
use Rattle.dispatch.specs.declared.job.Job.{Job}
use Rattle.dispatch.specs.declared.job.Active.{Active}
use Rattle.dispatch.specs.declared.job.RowState.{RowState}
use Rattle.dispatch.specs.Jobs.{no_state, change, released, and_job, jobs_of}
use Rattle.dispatch.specs.Orderly.{Orderly, OrderlyJob}
use Rattle.dispatch.specs.Laws.{Among, OneEach, OthersStay, MakesJob}
use Rattle.dispatch.specs.Runs.{RunState, with_rows, unless_refused, release_answer, after_release}
use Rattle.dispatch.proofs.Lists.{get_or-change_same, get_or-change_other}
use Rattle.dispatch.proofs.Accepted.{release_accepted}
use Rattle.dispatch.proofs.Keeping.{free_at}

change_others : (f : RowState → RowState) (i : ℕ) (rows : List RowState) → 1 ≤ i → OthersStay i rows (change f (i - 1) rows)
change_others f i rows some k other = get_or-change_other f no_state (i - 1) k (λ e. other (omega arith)) rows

module _ {S : Type 0} (i : ℕ) (st : RunState S) where
  pub release_makes : release_answer i st ≡ Ok tt → Orderly st.clock 1 st.rows → MakesJob i st.clock st.rows (after_release i st).rows
  release_makes accepted orderly =
      let w = release_accepted i st tt accepted in
      let lt : i - 1 < length st.rows = omega arith in
      let rows = ap (λ r. (unless_refused r (with_rows st (change (released i st.clock) (i - 1) st.rows)) st).rows) accepted in
      subst (MakesJob i st.clock st.rows) (sym rows) (
        free_at st.clock st.rows orderly (i - 1) lt w.2,
        ap (λ (r : RowState). r.active) (get_or-change_same (released i st.clock) no_state (i - 1) st.rows lt),
        change_others (released i st.clock) i st.rows w.0,
      )

-- a job among those of the rows numbered from i on is the first row's, or has a later row

among_cases : (clock i : ℕ) (r : RowState) (o : Option Active) (rest : List Job) (j : Job) → OrderlyJob clock i r o → Among j (and_job o rest)
    → ((a : Active) × (o ≡ Some a) × (a.job ≡ j) × (j.row ≡ i)) ⊎ Among j rest
among_cases clock i r None rest j orderly among = inr among
among_cases clock i r (Some a) rest j orderly among =
    ⊎_elim (λ e. inl (a, refl, e, omega (arith, orderly.0, ap (λ (x : Job). x.row) e))) inr among

among_later : (clock i : ℕ) (rows : List RowState) (j : Job) → Orderly clock i rows → Among j (jobs_of rows) → i ≤ j.row
among_later clock i [] j orderly among = absurd among
among_later clock i (r ∷ rows) j orderly among =
    ⊎_elim (λ h. omega (arith, h.3)) (λ h. omega (arith, among_later clock (suc i) rows j orderly.1 h)) (among_cases clock i r r.active (jobs_of rows) j orderly.0 among)

single_from : (clock i : ℕ) (rows : List RowState) → Orderly clock i rows → OneEach (jobs_of rows)
single_from clock i [] orderly j k a b same = absurd a
single_from clock i (r ∷ rows) orderly j k a b same =
    ⊎_elim
    (λ g. ⊎_elim
    (λ h. let one : Some g.0 ≡ Some h.0 = sym g.1 ∙ h.1 in let act : g.0 ≡ h.0 = cc in sym g.2 ∙ ap (λ (x : Active). x.job) act ∙ h.2)
    (λ h. absurd (omega (arith, g.3, among_later clock (suc i) rows k orderly.1 h)))
    (among_cases clock i r r.active (jobs_of rows) k orderly.0 b))
    (λ g. ⊎_elim
    (λ h. absurd (omega (arith, h.3, among_later clock (suc i) rows j orderly.1 g)))
    (λ h. single_from clock (suc i) rows orderly.1 j k g h same)
    (among_cases clock i r r.active (jobs_of rows) k orderly.0 b))
    (among_cases clock i r r.active (jobs_of rows) j orderly.0 a)

pub one_each : (clock : ℕ) (rows : List RowState) → Orderly clock 1 rows → OneEach (jobs_of rows)
one_each clock rows orderly = single_from clock 1 rows orderly
