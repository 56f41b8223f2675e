use Rattle.std.proofs.Common.{ℕ, ◌*◌, ap, arith}
use Rattle.std.proofs.lemmas.List.Sums.{sum_by_more_le}
use Rattle.table.specs.declared.row.Row.{Row}
use Rattle.table.proofs.Totals.{sum_by-small}
use Rattle.decision.proofs.curves.WorkCurve.at.Goals as goal

pub overflow_add-sum : goal.overflow_add-sum
overflow_add-sum g c =
    let t : ℕ = c.args.t in
    let work : Row → ℕ = λ r. g.C.Count.jobs t r * r.cost in
    let rs = c.args.self.now.rows.now in
    omega (
      arith,
      c.loop-row.invariant.1,
      sum_by_more_le work rs c.loop-row.row-index c.row-item.result c.loop-row-test.true,
      ap work c.row-item.is,
      ap (λ n. n * c.row-item.result.cost) c.jobs.ensures,
      sum_by-small work t (g.met.C.Count.size t) rs c.args.self.now.few,
    )
