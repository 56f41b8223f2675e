-- The rows of a run with their pending jobs. Assumes nothing.
use Rattle.std.specs.Prelude.{ℕ, zero, suc, ◌+◌, List, [], ◌∷◌, Some, None, Option, slice_index_or}
use Rattle.table.specs.declared.row.Row.{Row}
use Rattle.table.specs.Sums.{no_row}
use Rattle.dispatch.specs.declared.job.Job.{Job}
use Rattle.dispatch.specs.declared.job.Active.{Active}
use Rattle.dispatch.specs.declared.job.RowState.{RowState}

-- a row that was never released
abbrev pub new_row : Row → RowState
new_row r = record { row = r; active = None; next = 0 }

-- stands where a run has no row
abbrev pub no_state : RowState
no_state = new_row no_row

-- row i of a run, counted from 0
abbrev pub state_at : List RowState → ℕ → RowState
state_at rows i = slice_index_or rows i no_state

abbrev pub with_active : Option Active → RowState → RowState
with_active o r = record { row = r.row; active = o; next = r.next }

-- the list with the element at i changed
abbrev pub change : {A : Type 0} → (A → A) → ℕ → List A → List A
change f i [] = []
change f zero (x ∷ xs) = f x ∷ xs
change f (suc i) (x ∷ xs) = x ∷ change f i xs

-- the job that a release of row i, counted from 1, makes at this clock: it is due D ticks later and wants C ticks
abbrev pub new_job : ℕ → ℕ → Row → Active
new_job i clock r = record { job = record { row = i; release = clock; deadline = clock + r.deadline }; cost = r.cost; ran = 0 }

-- a released row: its next release is accepted T ticks later
abbrev pub released : ℕ → ℕ → RowState → RowState
released i clock r = record { row = r.row; active = Some (new_job i clock r.row); next = clock + r.row.period }

-- a row without its job
abbrev pub cleared : RowState → RowState
cleared r = with_active None r

abbrev pub and_job : Option Active → List Job → List Job
and_job None js = js
and_job (Some a) js = a.job ∷ js

-- the pending jobs, the lowest row first
abbrev pub jobs_of : List RowState → List Job
jobs_of [] = []
jobs_of (r ∷ rows) = and_job r.active (jobs_of rows)
