use Rattle.std.proofs.Common.{◌≤◌, arith}
use Rattle.decision.proofs.Widen.{widen}
use Rattle.decision.proofs.search.Climb.reached.Goals as goal

pub returns-then-at-self : goal.returns-then-at-self
returns-then-at-self g c =
    let s = c.args.self.now in
    widen (λ t. s.mark ≤ g.C.Curve.height s.curve.now t) c.args.from c.loop-step.low _ s.last c.halved.result (omega arith) (omega arith)
    (λ k lo lt h. omega (arith, c.loop-step.invariant.3, g.met.C.Curve.rises s.curve.now k c.loop-step.low (omega arith)))
    c.halved.ensures

pub returns-then-at-self-2 : goal.returns-then-at-self-2
returns-then-at-self-2 g c k lo hi h = omega (arith, c.at-2.ensures, g.met.C.Curve.rises c.args.self.now.curve.now k c.args.self.now.last hi)

pub returns : goal.returns
returns g c =
    let s = c.args.self.now in
    widen (λ t. s.mark ≤ g.C.Curve.height s.curve.now t) c.args.from c.loop-step.low s.last s.last c.halved-2.result (omega arith) (omega arith)
    (λ k lo lt h. omega (arith, c.loop-step.invariant.3, g.met.C.Curve.rises s.curve.now k c.loop-step.low (omega arith)))
    c.halved-2.ensures
