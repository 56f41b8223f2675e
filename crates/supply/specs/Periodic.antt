-- A periodic server in numbers: q ticks in every period of p. Assumes nothing.
use Rattle.std.specs.Prelude.{ℕ, ◌+◌, ◌-◌, ◌*◌, ◌≤◌, Bool, cond, ◌&&◌, ◌||◌, ◌==◌, nat_le, nat_lt}
use Rattle.arith.specs.Quotients.{ceiling}

-- a budget and a period that can be reserved
abbrev pub InRange : ℕ → ℕ → Type 0
InRange q p = (1 ≤ q) × (q ≤ p) × (p ≤ 100000)

-- e ticks are left in a period of p
abbrev pub InPeriod : ℕ → ℕ → Type 0
InPeriod p e = (1 ≤ e) × (e ≤ p)

-- r grants are owed in them: no more than the budget and the ticks left, and no more was granted than ticks have passed
abbrev pub Owed : ℕ → ℕ → ℕ → ℕ → Type 0
Owed q p e r = (r ≤ q) × (r ≤ e) × (e + q ≤ p + r)

-- B(t), by the published formula, for a budget of q ticks in every period of p: with k = ⌈(t − (p − q)) / p⌉,
--   0 for t up to p − q,
--   (k − 1) · q for t above k · p − q and up to (k + 1) · p − 2 · q,
--   t − (k + 1) · (p − q) otherwise
unfoldable pub periodic_bound : ℕ → ℕ → ℕ → ℕ
periodic_bound q p t =
    let k = ceiling (t - (p - q)) p in
    cond (nat_le t (p - q)) 0
    (cond (nat_lt (k * p - q) t && nat_le t ((k + 1) * p - 2 * q)) ((k - 1) * q)
    (t - (k + 1) * (p - q)))

-- a tick is granted where one is owed, and either it is offered or all that are left are owed
abbrev pub grants : ℕ → ℕ → Bool → Bool
grants remaining owed offer = nat_le 1 owed && (offer || owed == remaining)

-- a period that has one tick left starts again
abbrev pub remaining_after : ℕ → ℕ → ℕ
remaining_after period remaining = cond (remaining == 1) period (remaining - 1)

abbrev pub owed_after : ℕ → ℕ → ℕ → Bool → ℕ
owed_after budget remaining owed granted = cond (remaining == 1) budget (owed - cond granted 1 0)
