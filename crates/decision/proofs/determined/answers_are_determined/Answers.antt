use Rattle.decision.proofs.Unique.{one_window, one_priority, one_schedule}
use Rattle.decision.proofs.determined.answers_are_determined.Goals as goal

pub returns : goal.returns
returns c = record { window = one_window; priority = one_priority; schedule = one_schedule }
