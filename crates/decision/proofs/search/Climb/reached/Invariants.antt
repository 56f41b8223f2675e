use Rattle.std.proofs.Common.{◌-◌, ◌<◌, ◌≤◌}
use Rattle.decision.proofs.search.Climb.reached.Given as goal

abbrev pub invariant-loop-step : goal.invariant-loop-step
invariant-loop-step g l =
    (l.from ≤ l.low) × (l.low ≤ l.self.last) × (1 ≤ l.step) × (g.C.Curve.height l.self.curve.now l.low < l.self.mark)

abbrev pub decreases-loop-step : goal.decreases-loop-step
decreases-loop-step g l = l.self.last - l.low
