use Rattle.std.proofs.Common.{◌≡◌, ◌≤◌, length, take}
use Rattle.std.specs.List.{filter}
use Rattle.std.specs.Option.{is_some}
use Rattle.run.proofs.dispatcher.list.count.Given as goal

-- the rows up to here that have a job are counted
abbrev pub invariant-loop-row : goal.invariant-loop-row
invariant-loop-row l = (l.pending ≡ length (filter (λ r. is_some r.active) (take l.row-index l.rows))) × (l.pending ≤ l.row-index)
