-- Over any list of calls the counters are what the ticks answered, and no job is lost or made up. Assumes nothing.
use Rattle.std.proofs.Common.{◌≡◌, ℕ, ◌+◌, ◌-◌, ◌<◌, Bool, true, false, cond, eqb, ltb, List, [], ◌∷◌, map, length, Some, None, Option, refl, ap, subst, sum_by, arith}
use Rattle.std.proofs.lemmas.List.Sums.{sum_by-cons}
use Rattle.supply.specs.declared.grant.Grant.{Grant}
use Rattle.supply.specs.declared.grant.Grant.TheVariants as grant
use Rattle.table.specs.declared.row.Row.{Row}
use Rattle.dispatch.specs.declared.call.Call.{Call}
use Rattle.dispatch.specs.declared.call.Call.TheVariants as call
use Rattle.dispatch.specs.declared.job.Job.{Job}
use Rattle.dispatch.specs.declared.job.Active.{Active}
use Rattle.dispatch.specs.declared.job.RowState.{RowState}
use Rattle.dispatch.specs.declared.reply.Progress.TheVariants.{Ran, Ended}
use Rattle.dispatch.specs.declared.reply.Ticked.{Ticked}
use Rattle.dispatch.specs.declared.reply.Reply.{Reply}
use Rattle.dispatch.specs.declared.reply.Reply.TheVariants as told
use Rattle.dispatch.specs.Progresses.{granted_one, ran_one, idle_one, ended_one}
use Rattle.dispatch.specs.Jobs.{new_row, no_state, with_active, change, released, cleared, and_job, jobs_of}
use Rattle.dispatch.specs.Ticks.{Goes, first, worked, served, progress, late, kept, struck, missed}
use Rattle.dispatch.specs.Runs.{RunState, fresh, with_rows, release_answer, end_answer, credited, ticked, tick_answer, passed, pending_answer, reply, after, replies, after_all}
use Rattle.dispatch.specs.Orderly.{Orderly}
use Rattle.dispatch.specs.Promises.{tick_one, release_one, end_one, missed_of, of_tick, Conserved, Counted}
use Rattle.dispatch.proofs.Lists.{At, at_from, sum_by_change_by}
use Rattle.dispatch.proofs.Chosen.{Free, Has, chosen_at}
use Rattle.dispatch.proofs.Accepted.{reply_both, replied_both, release_accepted, end_accepted, tick_accepted}
use Rattle.dispatch.proofs.Keeping.{free_at, orderly_fresh, orderly_after}

-- the pending jobs, as a sum over the rows

abbrev pub pending_one : Option Active → ℕ
pending_one None = 0
pending_one (Some a) = 1

abbrev pub pending_of : RowState → ℕ
pending_of r = pending_one r.active

and_job-length : (o : Option Active) (js : List Job) → length (and_job o js) ≡ pending_one o + length js
and_job-length None js = omega arith
and_job-length (Some a) js = omega arith

pub jobs_counted : (rows : List RowState) → length (jobs_of rows) ≡ sum_by pending_of rows
jobs_counted [] = refl
jobs_counted (r ∷ rows) = omega (arith, sum_by-cons pending_of r rows, and_job-length r.active (jobs_of rows), jobs_counted rows)

-- one row

released_pending : (i clock : ℕ) (r : RowState) → Free r → pending_of (released i clock r) + 0 ≡ pending_of r + 1
released_pending i clock r free = let none : pending_of r ≡ 0 = ap pending_one free in omega arith

cleared_pending : (a : Active) (r : RowState) → Has a r → pending_of (cleared r) + 1 ≡ pending_of r + 0
cleared_pending a r has = let one : pending_of r ≡ 1 = ap pending_one has in omega arith

worked_either : (t : Bool) (a more : Active) (age : ℕ) → pending_one (cond t (Some more) None) + ended_one (cond t (Ran a.job.row) (Ended a.job.row age)) ≡ 1
worked_either true a more age = refl
worked_either false a more age = refl

worked_pending : (clock : ℕ) (a : Active) (r : RowState) → Has a r
    → pending_of (with_active (worked a) r) + ended_one (progress grant.Granted (Some a) clock) ≡ pending_of r + 0
worked_pending clock a r has =
    let one : pending_of r ≡ 1 = ap pending_one has in
    omega (arith, worked_either (ltb (a.ran + 1) a.cost) a (record { job = a.job; cost = a.cost; ran = a.ran + 1 }) (clock - a.job.release))

kept_either : (t : Bool) (a : Active) → cond t 1 0 + pending_one (cond t None (Some a)) ≡ 1
kept_either true a = refl
kept_either false a = refl

kept_pending : (clock : ℕ) (o : Option Active) → late clock o + pending_one (kept clock o) ≡ pending_one o
kept_pending clock None = refl
kept_pending clock (Some a) = kept_either (eqb a.job.deadline clock) a

-- all rows

struck_pending : (clock : ℕ) (rows : List RowState) → missed clock rows + sum_by pending_of (struck clock rows) ≡ sum_by pending_of rows
struck_pending clock [] = refl
struck_pending clock (r ∷ rows) =
    omega (
      arith,
      sum_by-cons (λ (x : RowState). late clock x.active) r rows,
      sum_by-cons pending_of (with_active (kept clock r.active) r) (struck clock rows),
      sum_by-cons pending_of r rows,
      kept_pending clock r.active,
      struck_pending clock rows,
    )

served_pending : (goes : Goes) (clock later : ℕ) (rows : List RowState) → Orderly clock 1 rows → (g : Grant) (p : Option Active) → first goes rows ≡ p
    → sum_by pending_of (served g p rows) + ended_one (progress g p later) ≡ sum_by pending_of rows + 0
served_pending goes clock later rows orderly grant.Withheld p e = refl
served_pending goes clock later rows orderly grant.Granted None e = refl
served_pending goes clock later rows orderly grant.Granted (Some a) e =
    sum_by_change_by (Has a) pending_of (with_active (worked a)) 0 (ended_one (progress grant.Granted (Some a) later)) (worked_pending later a)
    (a.job.row - 1) rows (chosen_at goes clock rows a orderly e)

-- one call

module _ {S : Type 0} (step : S → Bool → (Grant × S)) (goes : Goes) where
  -- the jobs that were pending or are released are those that end, are missed or are pending
  abbrev pub Balances : RunState S → Reply → RunState S → Type 0
  Balances st r new = release_one r + length (jobs_of st.rows) ≡ end_one r + missed_of r + length (jobs_of new.rows)

  balances_tick : (offer : Bool) (st : RunState S) → Orderly st.clock 1 st.rows → Balances st (told.Ticked (ticked step goes offer st)) (passed step goes offer st)
  balances_tick offer st orderly =
      omega (
        arith,
        jobs_counted st.rows,
        jobs_counted (passed step goes offer st).rows,
        served_pending goes st.clock (st.clock + 1) st.rows orderly (step st.supply offer).0 (first goes st.rows) refl,
        struck_pending (st.clock + 1) (credited step goes offer st),
      )

  balances : (c : Call) (st : RunState S) → Orderly st.clock 1 st.rows → Balances st (reply step goes c st) (after step goes c st)
  balances (call.Release i) st orderly =
      reply_both (Balances st) (λ _. told.Released) (release_answer i st) (with_rows st (change (released i st.clock) (i - 1) st.rows)) st
      (λ x is.
      let accepted = release_accepted i st x is in
      let there : i - 1 < length st.rows = omega (arith, accepted.0, accepted.1) in
      let free : At Free (i - 1) st.rows = at_from Free no_state (i - 1) st.rows there (free_at st.clock st.rows orderly (i - 1) there accepted.2) in
      omega (
        arith,
        jobs_counted st.rows,
        jobs_counted (change (released i st.clock) (i - 1) st.rows),
        sum_by_change_by Free pending_of (released i st.clock) 1 0 (released_pending i st.clock) (i - 1) st.rows free,
      ))
      (λ f. refl)
  balances (call.End i) st orderly =
      reply_both (Balances st) told.Ended (end_answer i st) (with_rows st (change cleared (i - 1) st.rows)) st
      (λ age is.
      let accepted = end_accepted i st age is in
      let there : i - 1 < length st.rows = omega (arith, accepted.0, accepted.1) in
      let a : Active = accepted.2.0 in
      let has : At (Has a) (i - 1) st.rows = at_from (Has a) no_state (i - 1) st.rows there accepted.2.1 in
      omega (
        arith,
        jobs_counted st.rows,
        jobs_counted (change cleared (i - 1) st.rows),
        sum_by_change_by (Has a) pending_of cleared 0 1 (cleared_pending a) (i - 1) st.rows has,
      ))
      (λ f. refl)
  balances (call.Tick offer) st orderly =
      reply_both (Balances st) told.Ticked (tick_answer step goes offer st) (passed step goes offer st) st
      (λ t is. subst (λ (u : Ticked). Balances st (told.Ticked u) (passed step goes offer st)) (tick_accepted step goes offer st t is).1 (balances_tick offer st orderly))
      (λ f. refl)
  balances call.Look st orderly = refl
  balances (call.Pending room) st orderly = replied_both (λ r. Balances st r st) told.Pending (pending_answer room st) (λ n is. refl) (λ f. refl)

  -- each counter rises by what the reply says
  abbrev pub CountersAdd : RunState S → Reply → RunState S → Type 0
  CountersAdd st r new =
      (new.clock ≡ st.clock + tick_one r)
      × (new.granted ≡ st.granted + of_tick granted_one r)
      × (new.ran ≡ st.ran + of_tick ran_one r)
      × (new.idle ≡ st.idle + of_tick idle_one r)

  adds_none : (st : RunState S) → CountersAdd st told.Released st
  adds_none st = (omega arith, omega arith, omega arith, omega arith)

  pub counters_after : (c : Call) (st : RunState S) → CountersAdd st (reply step goes c st) (after step goes c st)
  counters_after (call.Release i) st =
      reply_both (CountersAdd st) (λ _. told.Released) (release_answer i st) (with_rows st (change (released i st.clock) (i - 1) st.rows)) st
      (λ x is. adds_none st)
      (λ f. adds_none st)
  counters_after (call.End i) st =
      reply_both (CountersAdd st) told.Ended (end_answer i st) (with_rows st (change cleared (i - 1) st.rows)) st
      (λ age is. adds_none st)
      (λ f. adds_none st)
  counters_after (call.Tick offer) st =
      reply_both (CountersAdd st) told.Ticked (tick_answer step goes offer st) (passed step goes offer st) st
      (λ t is. subst (λ (u : Ticked). CountersAdd st (told.Ticked u) (passed step goes offer st)) (tick_accepted step goes offer st t is).1 (refl, refl, refl, refl))
      (λ f. adds_none st)
  counters_after call.Look st = adds_none st
  counters_after (call.Pending room) st = replied_both (λ r. CountersAdd st r st) told.Pending (pending_answer room st) (λ n is. adds_none st) (λ f. adds_none st)

  -- any list of calls

  pub balances_all : (cs : List Call) (st : RunState S) → Orderly st.clock 1 st.rows
      → sum_by release_one (replies step goes cs st) + length (jobs_of st.rows)
      ≡ sum_by end_one (replies step goes cs st) + sum_by missed_of (replies step goes cs st) + length (jobs_of (after_all step goes cs st).rows)
  balances_all [] st orderly = omega arith
  balances_all (c ∷ cs) st orderly =
      let now : Reply = reply step goes c st in
      let rest : List Reply = replies step goes cs (after step goes c st) in
      omega (
        arith,
        sum_by-cons release_one now rest,
        sum_by-cons end_one now rest,
        sum_by-cons missed_of now rest,
        balances c st orderly,
        balances_all cs (after step goes c st) (orderly_after step goes c st orderly),
      )

  pub clock_after : (cs : List Call) (st : RunState S) → (after_all step goes cs st).clock ≡ st.clock + sum_by tick_one (replies step goes cs st)
  clock_after [] st = omega arith
  clock_after (c ∷ cs) st =
      omega (arith, sum_by-cons tick_one (reply step goes c st) (replies step goes cs (after step goes c st)), (counters_after c st).0, clock_after cs (after step goes c st))

  pub granted_after : (cs : List Call) (st : RunState S) → (after_all step goes cs st).granted ≡ st.granted + sum_by (of_tick granted_one) (replies step goes cs st)
  granted_after [] st = omega arith
  granted_after (c ∷ cs) st =
      omega (arith, sum_by-cons (of_tick granted_one) (reply step goes c st) (replies step goes cs (after step goes c st)), (counters_after c st).1, granted_after cs (after step goes c st))

  pub ran_after : (cs : List Call) (st : RunState S) → (after_all step goes cs st).ran ≡ st.ran + sum_by (of_tick ran_one) (replies step goes cs st)
  ran_after [] st = omega arith
  ran_after (c ∷ cs) st =
      omega (arith, sum_by-cons (of_tick ran_one) (reply step goes c st) (replies step goes cs (after step goes c st)), (counters_after c st).2, ran_after cs (after step goes c st))

  pub idle_after : (cs : List Call) (st : RunState S) → (after_all step goes cs st).idle ≡ st.idle + sum_by (of_tick idle_one) (replies step goes cs st)
  idle_after [] st = omega arith
  idle_after (c ∷ cs) st =
      omega (arith, sum_by-cons (of_tick idle_one) (reply step goes c st) (replies step goes cs (after step goes c st)), (counters_after c st).3, idle_after cs (after step goes c st))

  -- a new run has no job
  new_pending : (rs : List Row) → length (jobs_of (map new_row rs)) ≡ 0
  new_pending [] = refl
  new_pending (r ∷ rs) = new_pending rs

  pub conserved : (rs : List Row) (s : S) (cs : List Call) → Conserved (replies step goes cs (fresh rs s)) (after_all step goes cs (fresh rs s))
  conserved rs s cs = omega (arith, balances_all cs (fresh rs s) (orderly_fresh rs), new_pending rs)

  pub counted : (rs : List Row) (s : S) (cs : List Call) → Counted (replies step goes cs (fresh rs s)) (after_all step goes cs (fresh rs s))
  counted rs s cs = record {
    clock = omega (arith, clock_after cs (fresh rs s));
    granted = omega (arith, granted_after cs (fresh rs s));
    ran = omega (arith, ran_after cs (fresh rs s));
    idle = omega (arith, idle_after cs (fresh rs s));
  }
