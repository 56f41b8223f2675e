-- What a list of pending jobs holds. Assumes nothing.
use Rattle.std.specs.Prelude.{◌≡◌, ℕ, List, length, take, drop, Ok, Err, Result}
use Rattle.std.specs.List.Sorted.{IsPermutation}
use Rattle.fault.specs.declared.fault.Fault.{Fault}
use Rattle.dispatch.specs.declared.job.Job.{Job}

-- one record for each pending job and no other, in any order; the records after them stay, and all of them where the
-- call is refused
abbrev pub Listed : List Job → List Job → List Job → Result ℕ Fault → Type 0
Listed jobs before after (Ok n) = IsPermutation jobs (take n after) × (drop n after ≡ drop n before) × (length after ≡ length before)
Listed jobs before after (Err f) = after ≡ before
