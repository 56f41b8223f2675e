-- A run as plain data. Assumes nothing.
use Rattle.dispatch.specs.Runs.{RunState}
use Rattle.run.specs.declared.run.Run.{Run}
use Rattle.bounded.specs.Items.{items_of}

abbrev pub state_of : {S O K A : Type 0} → Run S O K A → RunState S
state_of r = record {
  clock = r.dispatcher.clock;
  supply = r.supply;
  rows = items_of r.dispatcher.rows;
  granted = r.dispatcher.counters.granted;
  ran = r.dispatcher.counters.ran;
  idle = r.dispatcher.counters.idle;
}
