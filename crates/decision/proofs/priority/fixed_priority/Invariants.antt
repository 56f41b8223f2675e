use Rattle.std.proofs.Common.{◌≡◌, ℕ, ◌<◌, length, get_or}
use Rattle.table.specs.Tables.{rows_of}
use Rattle.decision.specs.Decisions.{Response}
use Rattle.decision.specs.Responses.{responses_of}
use Rattle.decision.proofs.priority.fixed_priority.Given as goal

abbrev pub invariant-loop-i : goal.invariant-loop-i
invariant-loop-i g l =
    (length (responses_of l.responses) ≡ l.i)
    × ((k : ℕ) → k < l.i → Response (rows_of l.table) (g.S.Supply.bound l.supply) k (get_or (responses_of l.responses) k 0))
