use Rattle.std.proofs.Common.{◌≤◌, length, take}
use Rattle.table.specs.Tables.{rows_of}
use Rattle.report.specs.Tasks.{RowsAre}
use Rattle.report.proofs.task.read_rows.Given as goal

abbrev pub invariant-loop-row : goal.invariant-loop-row
invariant-loop-row l = (l.row-index ≤ length l.rows) × RowsAre (rows_of l.table) (take l.row-index l.rows)
