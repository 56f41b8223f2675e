use Rattle.std.proofs.Common.{arith}
use Rattle.supply.proofs.Bounds.{floor_size}
use Rattle.decision.proofs.curves.RaisedCurve.at.Goals as goal

pub overflow_add-result : goal.overflow_add-result
overflow_add-result g c =
    let s = c.args.self.now.supply.now in
    let t = c.args.t in
    omega (arith, c.in-Some.ensures, g.met.S.Supply.covered s t, floor_size g.S.Supply.floor g.S.Supply.step g.met.S.Supply.empty g.met.S.Supply.spending t s)
