-- The sums over a table's rows. Assumes nothing.
use Rattle.std.proofs.Common.{ℕ, ◌+◌, ◌-◌, ◌*◌, ◌≤◌, List, [], ◌∷◌, length, get_or, take, le_trans, mul-le-mul_right, arith}
use Rattle.std.specs.List.{sum_by}
use Rattle.std.proofs.lemmas.List.Sums.{sum_by-cons, sum_by-le, sum_by-le-sum_by}
use Rattle.table.specs.declared.row.Row.{Row}
use Rattle.table.specs.Sums.{requested, workload, demand}
use Rattle.table.proofs.Counts.{released_work, due_work, released_mono, due_mono, due_split}

sum_by-split : (f h k : Row → ℕ) → ((r : Row) → f r ≤ h r + k r) → (rs : List Row) → sum_by f rs ≤ sum_by h rs + sum_by k rs
sum_by-split f h k le [] = omega arith
sum_by-split f h k le (r ∷ rs) = omega (arith, sum_by-cons f r rs, sum_by-cons h r rs, sum_by-cons k r rs, le r, sum_by-split f h k le rs)

-- over at most sixteen rows, of which none asks for more than t + T
pub sum_by-small : (f : Row → ℕ) (t : ℕ) → ((r : Row) → f r ≤ t + r.period) → (rs : List Row) → length rs ≤ 16 → sum_by f rs ≤ 16 * (t + 100000)
sum_by-small f t size rs few =
    le_trans (sum_by-le f (t + 100000) rs (λ k d lt. let r = get_or rs k d in omega (arith, size r, r.time))) (mul-le-mul_right (t + 100000) few)

-- the three sums do not fall as time goes on

pub requested_mono : (rs : List Row) (a b : ℕ) → a ≤ b → requested rs a ≤ requested rs b
unfolding requested
requested_mono rs a b h = sum_by-le-sum_by (released_work a) (released_work b) rs (released_mono a b h)

pub workload_mono : (rs : List Row) (i a b : ℕ) → a ≤ b → workload rs i a ≤ workload rs i b
unfolding workload
workload_mono rs i a b h = omega (arith, requested_mono (take i rs) a b h)

pub demand_mono : (rs : List Row) (a b : ℕ) → a ≤ b → demand rs a ≤ demand rs b
unfolding demand
demand_mono rs a b h = sum_by-le-sum_by (due_work a) (due_work b) rs (due_mono a b h)

-- what is due within t ticks was released in the first l of them, or is due within t - l of then
pub demand_split : (rs : List Row) (l t : ℕ) → l ≤ t → demand rs t ≤ requested rs l + demand rs (t - l)
unfolding demand requested
demand_split rs l t h = sum_by-split (due_work t) (released_work l) (due_work (t - l)) (due_split l t h) rs
