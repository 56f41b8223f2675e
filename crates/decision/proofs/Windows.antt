-- Demand that is met below a busy window is met for ever. Assumes nothing.
use Rattle.std.proofs.Common.{◌≡◌, ℕ, zero, suc, ◌+◌, ◌-◌, ◌<◌, ◌≤◌, List, ap, arith}
use native.Mathlib.Decide.{dec_lt}
use Rattle.table.specs.declared.row.Row.{Row}
use Rattle.table.specs.Sums.{requested, demand}
use Rattle.table.proofs.Totals.{demand_split}

-- looking below a window is enough: what is due in t ticks is requested in the window, which is promised, or due in
-- the rest
pub demand_met : (rs : List Row) (B : ℕ → ℕ) → ((a b : ℕ) → B a + B b ≤ B (a + b))
    → (l : ℕ) → 1 ≤ l → requested rs l ≤ B l → ((t : ℕ) → t < l → demand rs t ≤ B t)
    → (n t : ℕ) → t < n → demand rs t ≤ B t
demand_met rs B superadditive l one quiet below zero t lt = absurd (omega arith)
demand_met rs B superadditive l one quiet below (suc n) t lt =
    elim (dec_lt t l) [
      | yes q ↦ below t q
      | no q ↦
          let rest : demand rs (t - l) ≤ B (t - l) = demand_met rs B superadditive l one quiet below n (t - l) (omega arith) in
          let e : l + (t - l) ≡ t = omega arith in
          omega (arith, demand_split rs l t (omega arith), superadditive l (t - l), ap B e)
    ]
