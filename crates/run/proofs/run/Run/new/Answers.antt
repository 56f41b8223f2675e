use Rattle.table.specs.Tables.{rows_of}
use Rattle.order.specs.Orders.{goes_by}
use Rattle.soundness.proofs.Busy.{busy_window_ends}
use Rattle.run.proofs.run.Run.new.Goals as goal

pub returns-clause-busy_window_ends : goal.returns-clause-busy_window_ends
returns-clause-busy_window_ends g c =
    let supply = g.S.Supply in
    let met = g.met.S.Supply in
    busy_window_ends supply.bound supply.floor supply.step (record { empty = met.empty; covered = met.covered; lasting = met.lasting; spending = met.spending })
    (goes_by g.O.Order.keyed g.O.Order.before c.args.order) (rows_of c.args.table.now) c.args.supply
