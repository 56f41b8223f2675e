-- Which of two jobs goes first. Assumes nothing.
use Rattle.std.specs.Prelude.{ℕ, Bool, ◌&&◌, ◌||◌, ◌==◌, nat_lt}
use Rattle.dispatch.specs.declared.job.Job.{Job}
use Rattle.dispatch.specs.Ticks.{Goes}

-- by an order's keys
abbrev pub goes_by : {O K : Type 0} → (O → Job → K) → (K → K → Bool) → O → Goes
goes_by keyed before o a b = before (keyed o a) (keyed o b)

-- of two pairs of deadline and row: the earlier deadline, and where that is the same, the lower row
abbrev pub due_sooner : ℕ × ℕ → ℕ × ℕ → Bool
due_sooner a b = nat_lt a.0 b.0 || (a.0 == b.0 && nat_lt a.1 b.1)
