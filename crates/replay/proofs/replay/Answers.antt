use Rattle.std.proofs.Common.{◌≡◌, vec_items, sym, subst, arith}
use Rattle.std.proofs.lemmas.Grind.{common_steps}
use Rattle.table.specs.Tables.{rows_of}
use Rattle.order.specs.Orders.{goes_by}
use Rattle.dispatch.specs.Runs.{fresh, after_all, replies}
use Rattle.dispatch.specs.Promises.{Conserved, Counted}
use Rattle.dispatch.proofs.Counts.{conserved, counted}
use Rattle.replay.proofs.replay.Goals as goal

pub returns-clause-no_job_is_lost_or_made_up : goal.returns-clause-no_job_is_lost_or_made_up
returns-clause-no_job_is_lost_or_made_up g c =
    let step = g.S.Supply.step in
    let goes = goes_by g.O.Order.keyed g.O.Order.before c.args.order in
    let rs = rows_of c.args.table.now in
    let cs = c.args.calls.now in
    let start = fresh rs c.args.supply in
    let all : vec_items c.loop-call.replies ≡ replies step goes cs start = grind (arith, common_steps) in
    subst (λ xs. Conserved xs (after_all step goes cs start)) (sym all) (conserved step goes rs c.args.supply cs)

pub returns-clause-counters_tell_the_ticks : goal.returns-clause-counters_tell_the_ticks
returns-clause-counters_tell_the_ticks g c =
    let step = g.S.Supply.step in
    let goes = goes_by g.O.Order.keyed g.O.Order.before c.args.order in
    let rs = rows_of c.args.table.now in
    let cs = c.args.calls.now in
    let start = fresh rs c.args.supply in
    let all : vec_items c.loop-call.replies ≡ replies step goes cs start = grind (arith, common_steps) in
    subst (λ xs. Counted xs (after_all step goes cs start)) (sym all) (counted step goes rs c.args.supply cs)
