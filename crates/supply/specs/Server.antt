-- A periodic server: its bound, its floor and its step. Assumes nothing.
use Rattle.std.specs.Prelude.{◌≡◌, ℕ, zero, suc, ◌+◌, Bool, true, false, replicate, ◌==◌, refl}
use Rattle.std.proofs.Common.{arith}
use Rattle.supply.specs.declared.grant.Grant.{Grant}
use Rattle.supply.specs.declared.server.PeriodicServer.{PeriodicServer}
use Rattle.supply.specs.Grants.{grant, spent}
use Rattle.supply.specs.Periodic.{InRange, periodic_bound, grants, remaining_after, owed_after}
use Rattle.supply.specs.Ranges.{time_after, due_after}
use Rattle.supply.specs.Runs.{run, granted}

-- B(t)
abbrev pub server_bound : PeriodicServer → ℕ → ℕ
server_bound s t = periodic_bound s.budget s.period t

abbrev pub server_grants : PeriodicServer → Bool → Bool
server_grants s offer = grants s.remaining s.owed offer

abbrev pub server_next : PeriodicServer → Bool → PeriodicServer
server_next s offer = record {
  budget = s.budget;
  period = s.period;
  remaining = remaining_after s.period s.remaining;
  owed = owed_after s.budget s.remaining s.owed (server_grants s offer);
  range = s.range;
  time = time_after s.period s.remaining s.time (s.remaining == 1) refl;
  due = due_after s.budget s.period s.remaining s.owed s.range s.time s.due offer (server_grants s offer) refl (s.remaining == 1) refl;
}

abbrev pub server_step : PeriodicServer → Bool → (Grant × PeriodicServer)
server_step s offer = (grant (server_grants s offer), server_next s offer)

-- F(t): the grants of the next t ticks if every offer is no
abbrev pub server_floor : PeriodicServer → ℕ → ℕ
server_floor s zero = 0
server_floor s (suc t) = spent (server_step s false).0 + server_floor (server_next s false) t

-- the start of a period
abbrev pub fresh : (q p : ℕ) → InRange q p → PeriodicServer
fresh q p h = record {
  budget = q;
  period = p;
  remaining = p;
  owed = q;
  range = h;
  time = (omega arith, omega arith);
  due = (omega arith, omega arith, omega arith);
}

-- the worst case: the whole budget is offered at once, and then nothing; just the bound is granted
abbrev pub WorstCase : PeriodicServer → Type 0
WorstCase s = (t : ℕ) → granted server_step (run server_step s (replicate s.budget true)) (replicate t false) ≡ server_bound s t
