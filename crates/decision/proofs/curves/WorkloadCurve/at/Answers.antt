use Rattle.std.proofs.Common.{arith}
use Rattle.table.proofs.Counts.{released_work, released_size}
use Rattle.table.proofs.Totals.{sum_by-small}
use Rattle.decision.proofs.curves.WorkloadCurve.at.Goals as goal

pub overflow_add-result : goal.overflow_add-result
overflow_add-result c =
    let w = c.args.self.now in
    let t = c.args.t in
    omega (arith, c.at.ensures, w.row.now.work, w.row.now.time, sum_by-small (released_work t) t (released_size t) w.before.rows.now w.before.few)
