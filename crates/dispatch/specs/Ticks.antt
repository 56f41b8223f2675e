-- What a tick does to a run's rows. Assumes nothing.
use Rattle.std.specs.Prelude.{ℕ, ◌+◌, ◌-◌, Bool, cond, List, [], ◌∷◌, map, Some, None, Option, ◌==◌, nat_lt, sum_by}
use Rattle.supply.specs.declared.grant.Grant.{Grant}
use Rattle.supply.specs.declared.grant.Grant.TheVariants as grant
use Rattle.dispatch.specs.declared.job.Job.{Job}
use Rattle.dispatch.specs.declared.job.Active.{Active}
use Rattle.dispatch.specs.declared.job.RowState.{RowState}
use Rattle.dispatch.specs.declared.reply.Progress.{Progress}
use Rattle.dispatch.specs.declared.reply.Progress.TheVariants.{Withheld, Idle, Ran, Ended}
use Rattle.dispatch.specs.Jobs.{with_active, change}

-- which of two jobs goes first: true for the first of them
abbrev pub Goes : Type 0
Goes = Job → Job → Bool

abbrev pub sooner : Goes → Option Active → Option Active → Option Active
sooner goes None b = b
sooner goes (Some a) None = Some a
sooner goes (Some a) (Some b) = cond (goes a.job b.job) (Some a) (Some b)

-- the pending job that goes first
abbrev pub first : Goes → List RowState → Option Active
first goes [] = None
first goes (r ∷ rows) = sooner goes r.active (first goes rows)

-- a job after one tick more: none, if that was its C-th
abbrev pub worked : Active → Option Active
worked a = cond (nat_lt (a.ran + 1) a.cost) (Some (record { job = a.job; cost = a.cost; ran = a.ran + 1 })) None

-- the rows after the chosen job has run, if the tick was granted
abbrev pub served : Grant → Option Active → List RowState → List RowState
served grant.Withheld chosen rows = rows
served grant.Granted None rows = rows
served grant.Granted (Some a) rows = change (with_active (worked a)) (a.job.row - 1) rows

-- what a tick was that ends at this clock
abbrev pub progress : Grant → Option Active → ℕ → Progress
progress grant.Withheld chosen clock = Withheld
progress grant.Granted None clock = Idle
progress grant.Granted (Some a) clock = cond (nat_lt (a.ran + 1) a.cost) (Ran a.job.row) (Ended a.job.row (clock - a.job.release))

-- a job that is still pending as the clock comes to this
abbrev pub kept : ℕ → Option Active → Option Active
kept clock None = None
kept clock (Some a) = cond (a.job.deadline == clock) None (Some a)

-- the rows after the jobs that are due at this clock are struck off
abbrev pub struck : ℕ → List RowState → List RowState
struck clock rows = map (λ r. with_active (kept clock r.active) r) rows

-- 1 for a job that is struck off
abbrev pub late : ℕ → Option Active → ℕ
late clock None = 0
late clock (Some a) = cond (a.job.deadline == clock) 1 0

-- how many are struck off
abbrev pub missed : ℕ → List RowState → ℕ
missed clock rows = sum_by (λ r. late clock r.active) rows

abbrev pub lowest_of : ℕ → Option Active → ℕ → ℕ
lowest_of clock None further = further
lowest_of clock (Some a) further = cond (a.job.deadline == clock) a.job.row further

-- the lowest row of those struck off, or 0
abbrev pub lowest : ℕ → List RowState → ℕ
lowest clock [] = 0
lowest clock (r ∷ rows) = lowest_of clock r.active (lowest clock rows)
