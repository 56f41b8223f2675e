use Rattle.soundness.proofs.Deadline.{earliest_deadline_keeps_time}
use Rattle.order.proofs.Keys.{earlier_first}
use Rattle.order.proofs.deadline.EarliestDeadlineOrder.accepted_table_misses_no_job.Goals as goal

pub returns : goal.returns
returns g c rs window accepted =
    let supply = g.S.Supply in
    let met = g.met.S.Supply in
    earliest_deadline_keeps_time supply.bound supply.floor supply.step (record { empty = met.empty; covered = met.covered; lasting = met.lasting; spending = met.spending }) _
    (earlier_first c.args.self.now) rs c.args.supply.now accepted.1
