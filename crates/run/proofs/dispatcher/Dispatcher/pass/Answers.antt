use Rattle.std.proofs.Common.{◌≡◌, ◌+◌, length, refl, sym, subst, rules, arith}
use Rattle.bounded.specs.Items.{items_of}
use Rattle.dispatch.specs.Orderly.{Orderly}
use Rattle.dispatch.specs.Ticks.{served, struck}
use Rattle.dispatch.proofs.Keeping.{orderly_out}
use Rattle.run.proofs.Passed.{chosen_servable, chosen_orderly, granted_little}
use Rattle.run.proofs.dispatcher.Dispatcher.pass.Goals as goal

pub change-ticked-requires : goal.change-ticked-requires
change-ticked-requires c =
    let d = c.args.self.now in
    let servable = chosen_servable d.clock (length (items_of d.rows)) (items_of d.rows) c.args.grant c.args.chosen refl (orderly_out d.clock 1 (items_of d.rows) d.orderly) c.requires.first in
    search rules

pub invariant_of-self : goal.invariant_of-self
invariant_of-self c =
    let d = c.args.self.now in
    let after : items_of c.change-ticked.new.self ≡ struck (d.clock + 1) (served c.args.grant c.args.chosen (items_of d.rows)) = search rules in record {
      early = omega (arith, c.requires.early);
      orderly = ∣ subst (Orderly (d.clock + 1) 1) (sym after) (chosen_orderly d.clock (items_of d.rows) c.args.grant c.args.chosen (orderly_out d.clock 1 (items_of d.rows) d.orderly) c.requires.first) ∣₁;
      fewer = omega (arith, c.and-self.ensures.granted, granted_little c.change-ticked.result.progress);
    }
