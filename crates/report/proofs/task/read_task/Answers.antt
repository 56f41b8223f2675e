use Rattle.std.proofs.Common.{◌≤◌, length, ap, inr, arith}
use Rattle.std.proofs.lemmas.Result.{err_from_is_err_and}
use Rattle.report.proofs.Rows.{asked}
use Rattle.report.proofs.task.read_task.Goals as goal

pub returns-in_err-table : goal.returns-in_err-table
returns-in_err-table c =
    let ts = c.triples-triples.result.now in
    let read = c.in_ok-lines.ensures in
    let some : 1 ≤ length ts = omega (arith, ap length c.triples-triples.ensures.held, read.spells.0.some) in
    let p = err_from_is_err_and c.from_residual-in_err-table.result c.from_residual-in_err-table.ensures.1 in
    rw (p.1, p.2) (asked c.args.bytes.now ts _ read.value c.triples-triples.ensures.held some _ (inr (c.in_ok-server.ensures.fresh.0, c.in_err-table.ensures)))

pub returns : goal.returns
returns c =
    let ts = c.triples-triples.result.now in
    let read = c.in_ok-lines.ensures in
    let some : 1 ≤ length ts = omega (arith, ap length c.triples-triples.ensures.held, read.spells.0.some) in
    asked c.args.bytes.now ts _ read.value c.triples-triples.ensures.held some _ (c.in_ok-policy.ensures, c.in_ok-server.ensures.fresh, c.in_ok-table.ensures)
