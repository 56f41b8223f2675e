-- What the parts of a tick rest on and tell. Assumes nothing.
use Rattle.std.specs.Prelude.{ℕ, ◌<◌, ◌≤◌, Bool, true, false, cond, Some, None, Option, ◌==◌}
use Rattle.supply.specs.declared.grant.Grant.{Grant}
use Rattle.supply.specs.declared.grant.Grant.TheVariants.{Withheld, Granted}
use Rattle.dispatch.specs.declared.job.Active.{Active}
use Rattle.dispatch.specs.Ticks.{Goes}

-- a job of one of n rows that was released by this clock and still wants ticks
pub record Servable (clock n : ℕ) (a : Active) : Type 0 where
  pub numbered : 1 ≤ a.job.row
  pub within : a.job.row ≤ n
  pub released : a.job.release ≤ clock
  pub wanting : a.ran < a.cost

-- the row of a job that is struck off as the clock comes to this
abbrev pub struck_row : ℕ → Option Active → Option ℕ
struck_row clock None = None
struck_row clock (Some a) = cond (a.job.deadline == clock) (Some a.job.row) None

-- whether the first of two pending jobs is there and goes before the second, if that is there
abbrev pub leads : Goes → Option Active → Option Active → Bool
leads goes None b = false
leads goes (Some a) None = true
leads goes (Some a) (Some b) = goes a.job b.job

-- the job to run, which matters only if the tick is granted
abbrev pub if_granted : Grant → Option Active → Option Active
if_granted Withheld o = None
if_granted Granted o = o
