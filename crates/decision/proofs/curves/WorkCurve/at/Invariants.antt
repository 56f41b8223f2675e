use Rattle.std.proofs.Common.{◌≡◌, ◌*◌, ◌≤◌, length, take}
use Rattle.std.specs.List.{sum_by}
use Rattle.decision.proofs.curves.WorkCurve.at.Given as goal

abbrev pub invariant-loop-row : goal.invariant-loop-row
invariant-loop-row g l = (l.row-index ≤ length l.self.rows.now) × (l.sum ≡ sum_by (λ r. g.C.Count.jobs l.t r * r.cost) (take l.row-index l.self.rows.now))
