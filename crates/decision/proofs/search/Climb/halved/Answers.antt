use Rattle.std.proofs.Common.{arith}
use Rattle.decision.proofs.search.Climb.halved.Goals as goal

pub returns : goal.returns
returns g c = record {
  from = omega arith;
  to = omega arith;
  holds = c.loop-high.invariant.4;
  before = λ k lo lt h. omega (arith, c.loop-high.invariant.3, g.met.C.Curve.rises c.args.self.now.curve.now k c.loop-high.low (omega arith));
}
