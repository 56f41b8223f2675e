use Rattle.std.proofs.Common.{◌-◌, ◌<◌, ◌≤◌}
use Rattle.decision.proofs.search.Climb.halved.Given as goal

abbrev pub invariant-loop-high : goal.invariant-loop-high
invariant-loop-high g l =
    let at = g.C.Curve.height l.self.curve.now in
    (l.initial.low ≤ l.low) × (l.low < l.high) × (l.high ≤ l.initial.high) × (at l.low < l.self.mark) × (l.self.mark ≤ at l.high)

abbrev pub decreases-loop-high : goal.decreases-loop-high
decreases-loop-high g l = l.high - l.low
