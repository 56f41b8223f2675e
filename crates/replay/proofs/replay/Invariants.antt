use Rattle.std.proofs.Common.{◌≡◌, ◌++◌, drop, vec_items}
use Rattle.order.specs.Orders.{goes_by}
use Rattle.dispatch.specs.Runs.{replies}
use Rattle.run.specs.View.{state_of}
use Rattle.replay.proofs.replay.Given as goal

-- the replies so far, and those to the calls that are left, are all replies
abbrev pub invariant-loop-call : goal.invariant-loop-call
invariant-loop-call g l =
    let step = g.S.Supply.step in
    let goes = goes_by g.O.Order.keyed g.O.Order.before l.initial.run.order in
    (vec_items l.replies ++ replies step goes (drop l.call-index l.calls) (state_of l.run) ≡ replies step goes l.calls (state_of l.initial.run))
    × (l.run.order ≡ l.initial.run.order)
