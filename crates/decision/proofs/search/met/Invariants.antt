use Rattle.std.proofs.Common.{ℕ, ◌+◌, ◌-◌, ◌<◌, ◌≤◌}
use Rattle.decision.proofs.search.met.Given as goal

abbrev pub invariant-loop-t : goal.invariant-loop-t
invariant-loop-t g l =
    (l.from ≤ l.t) × ((k : ℕ) → l.from ≤ k → k < l.t → g.A.Curve.height l.asked k ≤ g.G.Curve.height l.given k → ⊥)

abbrev pub decreases-loop-t : goal.decreases-loop-t
decreases-loop-t g l = l.last + 1 - l.t
