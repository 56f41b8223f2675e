-- The laws of how often one row is released and due. What is proved of sums and tests rests on these alone.
-- Assumes nothing.
use Rattle.std.proofs.Common.{◌≡◌, ℕ, ◌+◌, ◌-◌, ◌*◌, ◌/◌, ◌<◌, ◌≤◌, ◌⊎◌, sym, subst, inl, inr, ⊎_elim, mul-le-mul_right, add-mul, mul-le-mul_left, one-mul, div-mul-le_self, arith}
use Rattle.std.proofs.lemmas.Bool.{cases_lt}
use Rattle.arith.specs.Quotients.{ceiling}
use Rattle.arith.proofs.Quotients.{div_mono, div_next, ceiling_mono, ceiling_next, ceiling_tight, div_split}
use Rattle.table.specs.declared.row.Row.{Row}
use Rattle.table.specs.Rows.{releases_in, deadlines_by}

-- the work of the jobs of a row that can be released in t ticks, and of those that can also be due
abbrev pub released_work : ℕ → Row → ℕ
released_work t r = releases_in t r * r.cost

abbrev pub due_work : ℕ → Row → ℕ
due_work t r = deadlines_by t r * r.cost

-- in a longer time no fewer
pub released_mono : (a b : ℕ) → a ≤ b → (r : Row) → released_work a r ≤ released_work b r
unfolding releases_in
released_mono a b h r = mul-le-mul_right r.cost (ceiling_mono r.period (omega arith) a b h)

pub due_mono : (a b : ℕ) → a ≤ b → (r : Row) → due_work a r ≤ due_work b r
unfolding deadlines_by
due_mono a b h r = mul-le-mul_right r.cost (div_mono r.period (omega arith) (a + r.period - r.deadline) (b + r.period - r.deadline) (omega arith))

-- one period later there is one release less
pub released_next : (a : ℕ) (r : Row) → 0 < a → r.cost + released_work (a - r.period) r ≤ released_work a r
unfolding releases_in
released_next a r pos =
    let fewer : ℕ = ceiling (a - r.period) r.period in
    let more : (fewer + 1) * r.cost ≤ ceiling a r.period * r.cost = mul-le-mul_right r.cost (ceiling_next r.period (omega arith) a pos) in
    omega (arith, add-mul fewer 1 r.cost, one-mul r.cost)

-- one period later there is one deadline less
pub due_next : (t : ℕ) (r : Row) → r.deadline ≤ t → r.cost + due_work (t - r.period) r ≤ due_work t r
unfolding deadlines_by
due_next t r le =
    let x : ℕ = t - r.period + r.period - r.deadline in
    let n : ℕ = t + r.period - r.deadline in
    let further : (x < r.period) ⊎ (x + r.period ≤ n) = ⊎_elim (λ l. inl (omega arith)) (λ l. inr (omega arith)) (cases_lt t r.period) in
    let more : (x / r.period + 1) * r.cost ≤ n / r.period * r.cost = mul-le-mul_right r.cost (div_next r.period (omega arith) x n (omega arith) further) in
    omega (arith, add-mul (x / r.period) 1 r.cost, one-mul r.cost)

-- what is due within t ticks was released in the first l of them, or is due within t - l of then
pub due_split : (l t : ℕ) → l ≤ t → (r : Row) → due_work t r ≤ released_work l r + due_work (t - l) r
unfolding deadlines_by releases_in
due_split l t h r =
    let x : ℕ = t - l + r.period - r.deadline in
    let e : t + r.period - r.deadline ≡ x + l = omega arith in
    let split : (t + r.period - r.deadline) / r.period ≤ ceiling l r.period + x / r.period =
    subst (λ (n : ℕ). n / r.period ≤ ceiling l r.period + x / r.period) (sym e) (div_split r.period (omega arith) x l) in
    omega (arith, mul-le-mul_right r.cost split, add-mul (ceiling l r.period) (x / r.period) r.cost)

-- a row asks for little more than the time itself, as C ≤ T
pub released_size : (t : ℕ) (r : Row) → released_work t r ≤ t + r.period
unfolding releases_in
released_size t r =
    let within : r.cost ≤ r.period = omega arith in
    omega (arith, mul-le-mul_left (ceiling t r.period) within, ceiling_tight r.period (omega arith) t)

pub due_size : (t : ℕ) (r : Row) → due_work t r ≤ t + r.period
unfolding deadlines_by
due_size t r =
    let n : ℕ = t + r.period - r.deadline in
    let within : r.cost ≤ r.period = omega arith in
    omega (arith, mul-le-mul_left (n / r.period) within, div-mul-le_self n r.period)
