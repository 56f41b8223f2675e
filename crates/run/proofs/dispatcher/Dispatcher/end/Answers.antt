use Rattle.std.proofs.Common.{◌≡◌, set, rules, arith}
use Rattle.bounded.specs.Items.{items_of}
use Rattle.dispatch.specs.Jobs.{cleared}
use Rattle.run.specs.Holding.{jobs_state}
use Rattle.dispatch.proofs.Keeping.{orderly_out}
use Rattle.run.proofs.Calls.{end_leaves, end_orderly, end_released}
use Rattle.run.proofs.dispatcher.Dispatcher.end.Goals as goal

pub overflow_sub-age : goal.overflow_sub-age
overflow_sub-age c =
    let d = c.args.self.now in
    end_released (jobs_state d) c.args.row c.in_ok-place.place _ _ c.items-rows.ensures.items c.in_ok-place.ensures c.index-rows-place.is
    c.in-Some.active c.in-Some.is (orderly_out d.clock 1 (items_of d.rows) d.orderly)

pub invariant_of-self : goal.invariant_of-self
invariant_of-self c =
    let d = c.args.self.now in
    let put : items_of c.change.new.self ≡ set (items_of d.rows) c.in_ok-place.place (cleared c.index-rows-place.result) = search rules in record {
      early = omega arith;
      orderly = ∣ end_orderly (jobs_state d) c.args.row c.in_ok-place.place _ _ c.items-rows.ensures.items c.in_ok-place.ensures c.index-rows-place.is
          c.in-Some.active c.in-Some.is _ put (orderly_out d.clock 1 (items_of d.rows) d.orderly) ∣₁;
      fewer = omega arith;
    }

pub returns-clause-state : goal.returns-clause-state
returns-clause-state c =
    let d = c.args.self.now in
    let put : items_of c.change.new.self ≡ set (items_of d.rows) c.in_ok-place.place (cleared c.index-rows-place.result) = search rules in
    end_leaves (jobs_state d) c.args.row c.in_ok-place.place _ _ c.items-rows.ensures.items c.in_ok-place.ensures c.index-rows-place.is
    c.in-Some.active c.in-Some.is _ put
