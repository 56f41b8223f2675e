-- A supply's bound and floor, by the laws of a supply. Assumes nothing.
use Rattle.std.proofs.Common.{◌≡◌, ℕ, zero, suc, ◌+◌, ◌-◌, ◌≤◌, Bool, false, ap, add-one, arith}
use Rattle.supply.specs.declared.grant.Grant.{Grant}
use Rattle.supply.specs.declared.grant.Grant.TheVariants.{Withheld, Granted}
use Rattle.supply.specs.Grants.{spent}

-- a bound does not fall
pub bound_rises : (B : ℕ → ℕ) → ((a b : ℕ) → B a + B b ≤ B (a + b)) → (a b : ℕ) → a ≤ b → B a ≤ B b
bound_rises B superadditive a b h =
    let e : a + (b - a) ≡ b = omega arith in
    omega (arith, superadditive a (b - a), ap B e)

spent_one : (g : Grant) → spent g ≤ 1
spent_one Withheld = omega arith
spent_one Granted = omega arith

-- no more is promised than there are ticks
pub floor_size : {S : Type 0} (floor : S → ℕ → ℕ) (step : S → Bool → (Grant × S)) → ((s : S) → floor s 0 ≡ 0)
    → ((s : S) (o : Bool) (t : ℕ) → floor s (t + 1) ≤ floor (step s o).1 t + spent (step s o).0) → (t : ℕ) (s : S) → floor s t ≤ t
floor_size floor step empty spending zero s = omega (arith, empty s)
floor_size floor step empty spending (suc t) s =
    let k : floor s (suc t) ≤ floor (step s false).1 t + spent (step s false).0 = rw add-one at (spending s false t) in
    omega (arith, k, spent_one (step s false).0, floor_size floor step empty spending t (step s false).1)
