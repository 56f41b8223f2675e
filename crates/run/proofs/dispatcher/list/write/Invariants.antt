use Rattle.std.proofs.Common.{◌≡◌, ◌++◌, length, take, drop}
use Rattle.dispatch.specs.Jobs.{jobs_of}
use Rattle.run.proofs.dispatcher.list.write.Given as goal

-- the jobs of the rows up to here stand in their places
abbrev pub invariant-loop-row : goal.invariant-loop-row
invariant-loop-row l =
    (l.n ≡ length (jobs_of (take l.row-index l.rows))) × (l.list ≡ jobs_of (take l.row-index l.rows) ++ drop l.n l.initial.list)
