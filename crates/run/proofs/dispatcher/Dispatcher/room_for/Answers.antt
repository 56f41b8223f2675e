use Rattle.std.proofs.Common.{arith}
use Rattle.run.proofs.Listed.{jobs_few}
use Rattle.run.proofs.dispatcher.Dispatcher.room_for.Goals as goal

pub overflow_cast-needed : goal.overflow_cast-needed
overflow_cast-needed c = omega (arith, jobs_few c.items.result.now)

pub overflow_cast-room : goal.overflow_cast-room
overflow_cast-room c = omega (arith, jobs_few c.items.result.now)
