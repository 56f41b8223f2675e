-- The decision on a task. Assumes nothing.
use Rattle.std.specs.Prelude.{ℕ, List, Ok, Err, Result}
use Rattle.fault.specs.declared.fault.Fault.{Fault}
use Rattle.table.specs.declared.row.Row.{Row}
use Rattle.decision.specs.Decisions.{Prioritised, Scheduled}
use Rattle.decision.specs.Responses.{responses_of}
use Rattle.text.specs.declared.policy.Policy.{Policy}
use Rattle.text.specs.declared.policy.Policy.TheVariants.{FixedPriority, EarliestDeadline}
use Rattle.report.specs.declared.verdict.Verdict.{Verdict}
use Rattle.report.specs.declared.verdict.Verdict.TheVariants.{Responses, Window}

-- by its own policy, over rows and a bound
abbrev pub Decided : Policy → List Row → (ℕ → ℕ) → Result Verdict Fault → Type 0
Decided FixedPriority rs B (Ok (Responses r)) = Prioritised rs B (Ok (responses_of r))
Decided FixedPriority rs B (Ok (Window l)) = ⊥
Decided FixedPriority rs B (Err f) = Prioritised rs B (Err f)
Decided EarliestDeadline rs B (Ok (Responses r)) = ⊥
Decided EarliestDeadline rs B (Ok (Window l)) = Scheduled rs B (Ok l)
Decided EarliestDeadline rs B (Err f) = Scheduled rs B (Err f)
