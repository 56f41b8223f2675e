use Rattle.soundness.proofs.Priority.{fixed_priority_keeps_time}
use Rattle.decision.specs.Responses.{responses_of}
use Rattle.order.proofs.Keys.{lower_row_first}
use Rattle.order.proofs.priority.FixedPriorityOrder.accepted_table_misses_no_job.Goals as goal

pub returns : goal.returns
returns g c rs responses accepted =
    let supply = g.S.Supply in
    let met = g.met.S.Supply in
    fixed_priority_keeps_time supply.bound supply.floor supply.step (record { empty = met.empty; covered = met.covered; lasting = met.lasting; spending = met.spending }) _
    (lower_row_first c.args.self.now) rs c.args.supply.now (responses_of responses) accepted
