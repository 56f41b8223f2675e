-- What a recording run again over a periodic server tells. Assumes nothing.
use Rattle.std.specs.Prelude.{◌≡◌, ℕ, ◌-◌, ◌⊎◌, List, Ok, Err, Result}
use Rattle.fault.specs.declared.rule.Rule.TheVariants as rule
use Rattle.fault.specs.Rules.{fault_of}
use Rattle.supply.specs.Periodic.{InRange, periodic_bound}
use Rattle.supply.specs.Server as server
use Rattle.table.specs.declared.row.Row.{Row}
use Rattle.table.specs.Sums.{row_at}
use Rattle.decision.specs.Decisions.{Scheduled}
use Rattle.dispatch.specs.declared.call.Call.{Call}
use Rattle.dispatch.specs.Ticks.{Goes}
use Rattle.dispatch.specs.declared.reply.Reply.{Reply}
use Rattle.dispatch.specs.Runs.{fresh, replies}
use Rattle.dispatch.specs.Promises.{Each, InTime}
use Rattle.order.specs.Orders.{due_sooner}
use Rattle.support.specs.declared.failure.Failure.{Failure}
use Rattle.support.specs.declared.failure.Failure.TheVariants.{Refused, NoMemory}

abbrev pub by_deadline : Goes
by_deadline a b = due_sooner (a.deadline, a.row) (b.deadline, b.row)

-- the replies are those of a new run over a fresh server; none tells a miss, and no job ended past its deadline. A
-- refusal is that of the reservation or of the test
abbrev pub Replayed : List Row → ℕ → ℕ → List Call → Result (List Reply) Failure → Type 0
Replayed rs q p cs (Ok given) =
    (h : InRange q p) × (given ≡ replies server.server_step by_deadline cs (fresh rs (server.fresh q p h))) × Each (InTime (λ row. (row_at rs (row - 1)).deadline)) cs given
Replayed rs q p cs (Err (Refused f)) =
    ((InRange q p → ⊥) × (f ≡ fault_of rule.Reservation q p)) ⊎ (InRange q p × Scheduled rs (periodic_bound q p) (Err f))
Replayed rs q p cs (Err NoMemory) = Unit {0}
