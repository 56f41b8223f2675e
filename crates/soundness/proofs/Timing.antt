-- How a run comes to answer in time: by an invariant that every call keeps, under which pending jobs are young and none
-- is missed. Assumes nothing.
use Rattle.std.proofs.Common.{◌≡◌, ℕ, ◌+◌, ◌-◌, ◌<◌, Bool, true, false, cond, ltb, List, [], ◌∷◌, length, Some, None, Option, refl, subst, arith}
use Rattle.supply.specs.declared.grant.Grant.{Grant}
use Rattle.supply.specs.declared.grant.Grant.TheVariants as grant
use Rattle.table.specs.declared.row.Row.{Row}
use Rattle.dispatch.specs.declared.call.Call.{Call}
use Rattle.dispatch.specs.declared.call.Call.TheVariants as call
use Rattle.dispatch.specs.declared.job.Active.{Active}
use Rattle.dispatch.specs.declared.reply.Progress.TheVariants.{Ran, Ended}
use Rattle.dispatch.specs.declared.reply.Reply.TheVariants as told
use Rattle.dispatch.specs.Jobs.{state_at}
use Rattle.dispatch.specs.Ticks.{Goes, first, progress, missed}
use Rattle.dispatch.specs.Runs.{RunState, fresh, release_answer, end_answer, credited, tick_answer, pending_answer, reply, after, replies}
use Rattle.dispatch.specs.Orderly.{Orderly}
use Rattle.dispatch.specs.Promises.{EndsWithin, InTime, Each, KeepsTime}
use Rattle.dispatch.proofs.Chosen.{chosen_row}
use Rattle.dispatch.proofs.Accepted.{replied_both, end_accepted, tick_accepted}

-- the limit of a row, counted from 1, where the limits are counted from 0
abbrev pub from_one : (ℕ → ℕ) → ℕ → ℕ
from_one limit i = limit (i - 1)

-- each pending job is younger than its row's limit
abbrev pub Young : {S : Type 0} → (ℕ → ℕ) → RunState S → Type 0
Young limit st = (k : ℕ) → k < length st.rows → (a : Active) → (state_at st.rows k).active ≡ Some a → st.clock < a.job.release + limit k

-- a tick strikes nothing off
abbrev pub Unmissed : {S : Type 0} → (S → Bool → (Grant × S)) → Goes → RunState S → Type 0
Unmissed step goes st = (offer : Bool) → missed (st.clock + 1) (credited step goes offer st) ≡ 0

module _ {S : Type 0} (step : S → Bool → (Grant × S)) (goes : Goes) (limit : ℕ → ℕ) where
  ends_within : (st : RunState S) → Orderly st.clock 1 st.rows → Young limit st → (g : Grant) (p : Option Active) → first goes st.rows ≡ p
      → EndsWithin (from_one limit) (progress g p (st.clock + 1))
  ends_within st orderly young grant.Withheld p is = tt
  ends_within st orderly young grant.Granted None is = tt
  ends_within st orderly young grant.Granted (Some a) is = by (ltb (a.ran + 1) a.cost)
    where
      by : (t : Bool) → EndsWithin (from_one limit) (cond t (Ran a.job.row) (Ended a.job.row (st.clock + 1 - a.job.release)))
      by true = tt
      by false =
          let row = chosen_row goes st.clock st.rows a orderly is in
          omega (arith, young (a.job.row - 1) row.0 a row.1)

  pub in_time : (c : Call) (st : RunState S) → Orderly st.clock 1 st.rows → Young limit st → Unmissed step goes st → InTime (from_one limit) c (reply step goes c st)
  in_time (call.Release i) st orderly young unmissed = replied_both (InTime (from_one limit) (call.Release i)) (λ _. told.Released) (release_answer i st) (λ x is. tt) (λ f. tt)
  in_time (call.End i) st orderly young unmissed =
      replied_both (InTime (from_one limit) (call.End i)) told.Ended (end_answer i st)
      (λ age is. let found = end_accepted i st age is in omega (arith, young (i - 1) (omega (arith, found.0, found.1)) found.2.0 found.2.1, found.2.2))
      (λ f. tt)
  in_time (call.Tick offer) st orderly young unmissed =
      replied_both (InTime (from_one limit) (call.Tick offer)) told.Ticked (tick_answer step goes offer st)
      (λ t is.
      subst (λ t. InTime (from_one limit) (call.Tick offer) (told.Ticked t)) (tick_accepted step goes offer st t is).1
      (unmissed offer, ends_within st orderly young (step st.supply offer).0 (first goes st.rows) refl))
      (λ f. tt)
  in_time call.Look st orderly young unmissed = tt
  in_time (call.Pending room) st orderly young unmissed = replied_both (InTime (from_one limit) (call.Pending room)) told.Pending (pending_answer room st) (λ n is. tt) (λ f. tt)

  -- an invariant of each state that makes each answer in time makes all of them so
  module _ (Kept : RunState S → Type 0) (keeps : (c : Call) (st : RunState S) → Kept st → Kept (after step goes c st))
      (answers : (c : Call) (st : RunState S) → Kept st → InTime (from_one limit) c (reply step goes c st)) where
    each_in_time : (cs : List Call) (st : RunState S) → Kept st → Each (InTime (from_one limit)) cs (replies step goes cs st)
    each_in_time [] st kept = tt
    each_in_time (c ∷ cs) st kept = (answers c st kept, each_in_time cs (after step goes c st) (keeps c st kept))

    pub keeps_time : (rs : List Row) (s : S) → Kept (fresh rs s) → KeepsTime step goes rs s (from_one limit)
    keeps_time rs s kept cs = each_in_time cs (fresh rs s) kept
