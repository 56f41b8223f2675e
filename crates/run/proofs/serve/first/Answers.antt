use Rattle.std.proofs.Common.{rules, tests}
use Rattle.std.proofs.lemmas.Iterator.Adapters.{YieldsList-from_rev_slice}
use Rattle.order.specs.Orders.{goes_by}
use Rattle.run.proofs.Leading.{first_reduced}
use Rattle.run.proofs.serve.first.Goals as goal

pub returns : goal.returns
returns g c =
    let goes = goes_by g.O.Order.keyed g.O.Order.before c.args.order.now in
    first_reduced goes _ _ (λ b x y q k. search (rules, tests)) {s = c.rev.result} c.args.rows.now c.in_ok-best.best c.in_ok-best.ensures.ran
    (YieldsList-from_rev_slice c.args.rows.now cc)
