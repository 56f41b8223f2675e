-- What a tick was, in numbers: which of the four, the row that ran and the age at which its job ended. Assumes nothing.
use Rattle.std.specs.Prelude.{ℕ}
use Rattle.dispatch.specs.declared.reply.Progress.{Progress}
use Rattle.dispatch.specs.declared.reply.Progress.TheVariants.{Withheld, Idle, Ran, Ended}

abbrev pub progress_number : Progress → ℕ
progress_number Withheld = 1
progress_number Idle = 2
progress_number (Ran row) = 3
progress_number (Ended row age) = 4

-- 0 where none ran
abbrev pub progress_row : Progress → ℕ
progress_row Withheld = 0
progress_row Idle = 0
progress_row (Ran row) = row
progress_row (Ended row age) = row

-- 0 where none ended
abbrev pub progress_age : Progress → ℕ
progress_age Withheld = 0
progress_age Idle = 0
progress_age (Ran row) = 0
progress_age (Ended row age) = age

-- 1 for a granted tick, for one in which a job ran, for one that was granted to nobody, and for one that ended a job
abbrev pub granted_one : Progress → ℕ
granted_one Withheld = 0
granted_one Idle = 1
granted_one (Ran row) = 1
granted_one (Ended row age) = 1

abbrev pub ran_one : Progress → ℕ
ran_one Withheld = 0
ran_one Idle = 0
ran_one (Ran row) = 1
ran_one (Ended row age) = 1

abbrev pub idle_one : Progress → ℕ
idle_one Withheld = 0
idle_one Idle = 1
idle_one (Ran row) = 0
idle_one (Ended row age) = 0

abbrev pub ended_one : Progress → ℕ
ended_one Withheld = 0
ended_one Idle = 0
ended_one (Ran row) = 0
ended_one (Ended row age) = 1
