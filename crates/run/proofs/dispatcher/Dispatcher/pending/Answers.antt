use Rattle.dispatch.specs.Jobs.{jobs_of}
use Rattle.dispatch.specs.Laws.{OneEach}
use Rattle.run.specs.declared.dispatcher.Dispatcher.{Dispatcher}
use Rattle.bounded.specs.Items.{items_of}
use Rattle.dispatch.proofs.Changes.{one_each}
use Rattle.dispatch.proofs.Keeping.{orderly_out}
use Rattle.run.proofs.dispatcher.Dispatcher.pending.Goals as goal

single : (d : Dispatcher) → OneEach (jobs_of (items_of d.rows))
single d = one_each d.clock (items_of d.rows) (orderly_out d.clock 1 (items_of d.rows) d.orderly)

pub returns-in_err-needed-clause-one_each : goal.returns-in_err-needed-clause-one_each
returns-in_err-needed-clause-one_each c = single c.args.self.now

pub returns-clause-one_each : goal.returns-clause-one_each
returns-clause-one_each c = single c.args.self.now
