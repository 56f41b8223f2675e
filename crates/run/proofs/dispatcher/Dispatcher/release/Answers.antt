use Rattle.std.proofs.Common.{◌≡◌, ◌≤◌, set, rules, arith}
use Rattle.bounded.specs.Items.{items_of}
use Rattle.dispatch.specs.Jobs.{released}
use Rattle.run.specs.Holding.{jobs_state}
use Rattle.dispatch.proofs.Keeping.{orderly_out}
use Rattle.run.proofs.Calls.{release_leaves, release_orderly, release_job}
use Rattle.run.proofs.dispatcher.Dispatcher.release.Goals as goal

pub invariant_of-self : goal.invariant_of-self
invariant_of-self c =
    let d = c.args.self.now in
    let put : items_of c.change.new.self ≡ set (items_of d.rows) c.in_ok-place.place (released c.args.row d.clock c.index-rows-place.result) = search rules in record {
      early = omega arith;
      orderly = ∣ release_orderly (jobs_state d) c.args.row c.in_ok-place.place _ _ c.items-rows.ensures.items c.in_ok-place.ensures c.index-rows-place.is
          _ put (orderly_out d.clock 1 (items_of d.rows) d.orderly) ∣₁;
      fewer = omega arith;
    }

pub returns-clause-state : goal.returns-clause-state
returns-clause-state c =
    let d = c.args.self.now in
    let due : c.index-rows-place.result.next ≤ d.clock = omega arith in
    let put : items_of c.change.new.self ≡ set (items_of d.rows) c.in_ok-place.place (released c.args.row d.clock c.index-rows-place.result) = search rules in
    release_leaves (jobs_state d) c.args.row c.in_ok-place.place _ _ c.items-rows.ensures.items c.in_ok-place.ensures c.index-rows-place.is _ put due

pub returns-clause-job : goal.returns-clause-job
returns-clause-job c =
    let d = c.args.self.now in
    let due : c.index-rows-place.result.next ≤ d.clock = omega arith in
    let put : items_of c.change.new.self ≡ set (items_of d.rows) c.in_ok-place.place (released c.args.row d.clock c.index-rows-place.result) = search rules in
    release_job (jobs_state d) c.args.row c.in_ok-place.place _ _ c.items-rows.ensures.items c.in_ok-place.ensures c.index-rows-place.is _ put due
    (orderly_out d.clock 1 (items_of d.rows) d.orderly)
