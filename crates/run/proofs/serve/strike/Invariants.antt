use Rattle.std.proofs.Common.{◌≡◌, ◌+◌, ◌≤◌, ◌++◌, map, take, drop, unwrap_or}
use Rattle.dispatch.specs.Ticks.{missed, lowest}
use Rattle.run.proofs.Struck.{strike_of}
use Rattle.run.proofs.serve.strike.Given as goal

-- the rows up to here are struck, and with what is still to be struck they are all counted and told
abbrev pub invariant-loop-row : goal.invariant-loop-row
invariant-loop-row l = record {
  rows : l.rows ≡ map (strike_of l.clock) (take l.row-index l.initial.rows) ++ drop l.row-index l.initial.rows;
  missed : l.missed + missed l.clock (drop l.row-index l.initial.rows) ≡ missed l.clock l.initial.rows;
  lowest : unwrap_or l.lowest (lowest l.clock (drop l.row-index l.initial.rows)) ≡ lowest l.clock l.initial.rows;
  few : l.missed ≤ l.row-index;
}
