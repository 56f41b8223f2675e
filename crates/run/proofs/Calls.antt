-- What an accepted release and an accepted end come to, as the code does them. Assumes nothing.
use Rattle.std.proofs.Common.{◌≡◌, ℕ, ◌+◌, ◌-◌, ◌<◌, ◌≤◌, cond, List, length, get_or, set, Some, Ok, Err, sym, ap, ◌∙◌, subst, arith, le-leb}
use Rattle.std.proofs.lemmas.List.{get_or_default}
use Rattle.fault.specs.declared.rule.Rule.TheVariants as rule
use Rattle.fault.specs.Rules.{fault_of}
use Rattle.fault.specs.Steps.{and_then}
use Rattle.dispatch.specs.declared.job.Active.{Active}
use Rattle.dispatch.specs.declared.job.RowState.{RowState}
use Rattle.dispatch.specs.Jobs.{state_at, no_state, change, released, cleared}
use Rattle.dispatch.specs.Orderly.{OrderlyJob, Orderly}
use Rattle.dispatch.specs.Runs.{RunState, with_rows, unless_refused, place_of, admit, age_of, release_answer, after_release, after_end}
use Rattle.dispatch.specs.Laws.{MakesJob}
use Rattle.dispatch.proofs.Accepted.{place_there}
use Rattle.dispatch.proofs.Changes.{release_makes}
use Rattle.dispatch.proofs.Keeping.{orderly_at, orderly_released, orderly_cleared}
use Rattle.dispatch.proofs.Lists.{change_set}

-- row i has the place k in the rows that a run holds, where x is read
module _ {S : Type 0} (st : RunState S) (i k : ℕ) (x : RowState) (rows : List RowState) (held : rows ≡ st.rows)
    (found : Ok k ≡ place_of i (length rows)) (is : x ≡ get_or rows k x) where
  placed : place_of i (length st.rows) ≡ Ok k
  placed = sym (found ∙ ap (λ rs. place_of i (length rs)) held)

  within : (1 ≤ i) × (k < length st.rows) × (i - 1 ≡ k)
  within = let p = place_there i (length st.rows) k placed in (p.0, omega arith, p.2)

  read : x ≡ get_or st.rows k x
  read = is ∙ ap (λ rs. get_or rs k x) held

  at : state_at st.rows k ≡ x
  at = let w = within in sym (read ∙ get_or_default st.rows k x no_state w.1)

  -- what x becomes is written back
  written : (f : RowState → RowState) (now : List RowState) → now ≡ set st.rows k (f x) → now ≡ change f (i - 1) st.rows
  written f now put =
      let w = within in
      put ∙ change_set f st.rows k x w.1 read ∙ ap (λ m. change f m st.rows) (sym w.2)

  -- a release

  module _ (now : List RowState) (put : now ≡ set st.rows k (released i st.clock x)) where
    pub release_orderly : Orderly st.clock 1 st.rows → Orderly st.clock 1 now
    release_orderly orderly = subst (Orderly st.clock 1) (sym (written (released i st.clock) now put)) (orderly_released st.clock i st.rows within.0 orderly)

    module _ (due : x.next ≤ st.clock) where
      accepts : Ok tt ≡ release_answer i st
      accepts =
          let same : (state_at st.rows k).next ≡ x.next = ap (λ (r : RowState). r.next) at in
          sym (ap (λ r. and_then r (λ m. admit i st.clock (state_at st.rows m))) placed
          ∙ ap (λ b. cond b (Ok tt) (Err (fault_of rule.PeriodPassed i ((state_at st.rows k).next - st.clock)))) (le-leb (state_at st.rows k).next st.clock (omega arith)))

      pub release_leaves : with_rows st now ≡ after_release i st
      release_leaves =
          ap (with_rows st) (written (released i st.clock) now put)
          ∙ ap (λ r. unless_refused r (with_rows st (change (released i st.clock) (i - 1) st.rows)) st) accepts

      pub release_job : Orderly st.clock 1 st.rows → MakesJob i st.clock st.rows now
      release_job orderly = subst (MakesJob i st.clock st.rows) (sym (ap (λ (s : RunState S). s.rows) release_leaves)) (release_makes i st (sym accepts) orderly)

  -- an end

  module _ (a : Active) (has : x.active ≡ Some a) where
    has_at : (state_at st.rows k).active ≡ Some a
    has_at = ap (λ (r : RowState). r.active) at ∙ has

    pub end_released : Orderly st.clock 1 st.rows → a.job.release ≤ st.clock
    end_released orderly =
        let w = within in
        let job = subst (λ o. OrderlyJob st.clock (k + 1) (state_at st.rows k) o) has_at (orderly_at st.clock st.rows orderly k w.1) in
        job.3

    module _ (now : List RowState) (put : now ≡ set st.rows k (cleared x)) where
      pub end_orderly : Orderly st.clock 1 st.rows → Orderly st.clock 1 now
      end_orderly orderly = subst (Orderly st.clock 1) (sym (written cleared now put)) (orderly_cleared st.clock (i - 1) st.rows orderly)

      pub end_leaves : with_rows st now ≡ after_end i st
      end_leaves =
          ap (with_rows st) (written cleared now put)
          ∙ ap (λ r. unless_refused r (with_rows st (change cleared (i - 1) st.rows)) st)
          (sym (ap (λ r. and_then r (λ m. age_of i st.clock (state_at st.rows m).active)) placed ∙ ap (age_of i st.clock) has_at))
