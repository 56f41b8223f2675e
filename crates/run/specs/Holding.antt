-- What a dispatcher holds, as plain data. Assumes nothing.
use Rattle.std.specs.Prelude.{ℕ, ◌+◌, cond, List, Ok, Err, Option, Result, nat_lt}
use Rattle.fault.specs.declared.fault.Fault.{Fault}
use Rattle.fault.specs.declared.rule.Rule.TheVariants as rule
use Rattle.fault.specs.Rules.{fault_of}
use Rattle.bounded.specs.Items.{items_of}
use Rattle.supply.specs.declared.grant.Grant.{Grant}
use Rattle.dispatch.specs.declared.job.Active.{Active}
use Rattle.dispatch.specs.declared.job.RowState.{RowState}
use Rattle.dispatch.specs.declared.reply.Ticked.{Ticked}
use Rattle.dispatch.specs.Progresses.{granted_one, ran_one, idle_one}
use Rattle.dispatch.specs.Ticks.{served, progress, struck, missed, lowest}
use Rattle.dispatch.specs.Runs.{RunState, last_clock}
use Rattle.run.specs.declared.dispatcher.Dispatcher.{Dispatcher}

-- a run's state without its supply
abbrev pub jobs_state : Dispatcher → RunState Unit
jobs_state d = record {
  clock = d.clock;
  supply = tt;
  rows = items_of d.rows;
  granted = d.counters.granted;
  ran = d.counters.ran;
  idle = d.counters.idle;
}

-- what a tick answers that was so granted and ends at this clock, with the job that goes first
abbrev pub ticked_at : ℕ → Grant → Option Active → List RowState → Ticked
ticked_at clock g chosen rows = record {
  progress = progress g chosen clock;
  missed = missed clock (served g chosen rows);
  lowest = lowest clock (served g chosen rows);
}

abbrev pub ticked_by : {S : Type 0} → Grant → Option Active → RunState S → Ticked
ticked_by g chosen st = ticked_at (st.clock + 1) g chosen st.rows

abbrev pub passed_by : {S : Type 0} → Grant → Option Active → RunState S → RunState S
passed_by g chosen st = record {
  clock = st.clock + 1;
  supply = st.supply;
  rows = struck (st.clock + 1) (served g chosen st.rows);
  granted = st.granted + granted_one (progress g chosen (st.clock + 1));
  ran = st.ran + ran_one (progress g chosen (st.clock + 1));
  idle = st.idle + idle_one (progress g chosen (st.clock + 1));
}

-- 54 at the last clock
abbrev pub in_time_to_tick : ℕ → Result Unit Fault
in_time_to_tick clock = cond (nat_lt clock last_clock) (Ok tt) (Err (fault_of rule.ClockGoesOn 0 0))
