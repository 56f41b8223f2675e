-- What each call of a run keeps to, in the words of the subject. Assumes nothing.
use Rattle.std.specs.Prelude.{◌≡◌, ℕ, ◌+◌, ◌-◌, ◌<◌, true, cond, ◌⊎◌, List, [], ◌∷◌, length, Some, None, Option, ◌==◌, ◌≢◌}
use Rattle.dispatch.specs.declared.job.Job.{Job}
use Rattle.dispatch.specs.declared.job.Active.{Active}
use Rattle.dispatch.specs.declared.job.RowState.{RowState}
use Rattle.dispatch.specs.declared.reply.Progress.{Progress}
use Rattle.dispatch.specs.declared.reply.Progress.TheVariants.{Withheld, Idle, Ran, Ended}
use Rattle.dispatch.specs.Progresses.{progress_row}
use Rattle.dispatch.specs.Ticks.{Goes}
use Rattle.dispatch.specs.Jobs.{state_at, new_job}

abbrev pub Among : Job → List Job → Type 0
Among j [] = ⊥
Among j (x ∷ xs) = (x ≡ j) ⊎ Among j xs

-- row i has a pending job, which goes before every pending job of another row
abbrev pub Leads : Goes → ℕ → List Job → Type 0
Leads goes i jobs = (j : Job) × Among j jobs × (j.row ≡ i) × ((k : Job) → Among k jobs → (k.row ≢ i) → goes j k ≡ true)

-- the job that runs goes before every other pending job; a granted tick is idle only where nothing is pending
abbrev pub FollowsOrder : Goes → List Job → Progress → Type 0
FollowsOrder goes jobs Withheld = Unit {0}
FollowsOrder goes jobs Idle = jobs ≡ []
FollowsOrder goes jobs (Ran row) = Leads goes row jobs
FollowsOrder goes jobs (Ended row age) = Leads goes row jobs

-- the ticks that a tick adds to the work of row i's job
abbrev pub work_of : ℕ → Progress → ℕ
work_of i p = cond (progress_row p == i) 1 0

-- what becomes of a job of row i in a tick that brings the clock to c. It stays pending as the same job, with the work
-- that it was given; or it has had its C ticks, and the tick answers so, with its age; or it is due and struck off
abbrev pub Passes : ℕ → ℕ → Progress → Active → Option Active → Type 0
Passes i c p a after =
    ((after ≡ Some (record { job = a.job; cost = a.cost; ran = a.ran + work_of i p })) × (a.ran + work_of i p < a.cost) × (c < a.job.deadline))
    ⊎ ((after ≡ None) × (a.ran + work_of i p ≡ a.cost) × (p ≡ Ended i (c - a.job.release)))
    ⊎ ((after ≡ None) × (a.ran + work_of i p < a.cost) × (c ≡ a.job.deadline))

-- a row without a job has none after a tick either
abbrev pub Lives : ℕ → ℕ → Progress → Option Active → Option Active → Type 0
Lives i c p None after = after ≡ None
Lives i c p (Some a) after = Passes i c p a after

-- so it is of every row
abbrev pub JobsLive : ℕ → Progress → List RowState → List RowState → Type 0
JobsLive c p before after = (k : ℕ) → k < length before → Lives (k + 1) c p (state_at before k).active (state_at after k).active

-- no job was given work: what is pending after was pending before, with the same work
abbrev pub NoWork : List RowState → List RowState → Type 0
NoWork before after = (k : ℕ) (a : Active) → k < length before → (state_at after k).active ≡ Some a → (state_at before k).active ≡ Some a

-- no row has two pending jobs
abbrev pub OneEach : List Job → Type 0
OneEach jobs = (j k : Job) → Among j jobs → Among k jobs → j.row ≡ k.row → j ≡ k

-- every row but row i, counted from 1, is as it was
abbrev pub OthersStay : ℕ → List RowState → List RowState → Type 0
OthersStay i before after = (k : ℕ) → (k + 1 ≢ i) → state_at after k ≡ state_at before k

-- an accepted release of row i finds no job of the row, and makes one that is released now and due D ticks later
abbrev pub MakesJob : ℕ → ℕ → List RowState → List RowState → Type 0
MakesJob i clock before after =
    ((state_at before (i - 1)).active ≡ None) × ((state_at after (i - 1)).active ≡ Some (new_job i clock (state_at before (i - 1)).row)) × OthersStay i before after

-- an accepted end of row i removes its job
abbrev pub RemovesJob : ℕ → List RowState → List RowState → Type 0
RemovesJob i before after = ((state_at after (i - 1)).active ≡ None) × OthersStay i before after
