use Rattle.std.proofs.Common.{◌≡◌, ℕ, ◌+◌, ◌-◌, ◌*◌, ◌/◌, ◌%◌, ◌≤◌, arith}
use Rattle.supply.specs.declared.server.PeriodicServer.{PeriodicServer}
use Rattle.supply.specs.Server.{server_bound}
use Rattle.supply.specs.Closed.{from_start_at, from_start_size, bound_closed}
use Rattle.supply.proofs.server.serve.PeriodicServerSupply.bound.Goals as goal

-- the ticks past the longest wait, by whole periods and a last part
abbrev served : PeriodicServer → ℕ → ℕ
served s t = t - (s.period - s.budget)

closed : (s : PeriodicServer) (t : ℕ) → server_bound s t ≡ served s t / s.period * s.budget + (served s t % s.period - (s.period - s.budget))
closed s t = omega (arith, bound_closed s.budget s.period s.range.0 s.range.1 t, from_start_at s.budget s.period s.range.0 s.range.1 (served s t))

size : (s : PeriodicServer) (t : ℕ) → served s t / s.period * s.budget + served s t % s.period ≤ served s t
size s t = from_start_size s.budget s.period s.range.1 (served s t)

pub returns-then-t-idle : goal.returns-then-t-idle
returns-then-t-idle c = (omega arith, omega (arith, closed c.args.self.now c.args.t, size c.args.self.now c.args.t))

pub overflow_mul-whole : goal.overflow_mul-whole
overflow_mul-whole c = omega (arith, size c.args.self.now c.args.t)

pub overflow_add-result : goal.overflow_add-result
overflow_add-result c = omega (arith, size c.args.self.now c.args.t)

pub returns-then-part-idle : goal.returns-then-part-idle
returns-then-part-idle c = (omega arith, omega (arith, closed c.args.self.now c.args.t))

pub returns-else-part-idle : goal.returns-else-part-idle
returns-else-part-idle c = (omega arith, omega (arith, closed c.args.self.now c.args.t))
