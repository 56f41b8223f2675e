-- The grants from the start of a period where nothing is offered, in closed form, and the bound's formula by it.
-- Assumes nothing.
use Rattle.std.specs.Prelude.{◌≡◌, ℕ, zero, suc, ◌+◌, ◌-◌, ◌*◌, ◌/◌, ◌%◌, ◌<◌, ◌≤◌, min, true, cond, ◌&&◌, ltb, nat_le, nat_lt}
use Rattle.std.proofs.Math.Path.{refl, sym, ap, subst}
use Rattle.std.proofs.Common.{◌∙◌, ⊎_elim, mul-le-mul_left, add-mul, mul-add, one-mul}
use Rattle.std.proofs.Math.Nat.{zero-mul, div-add-mod', mod-lt, zero-div, zero-mod}
use native.Mathlib.Omega.{arith}
use Rattle.std.proofs.Math.Arith.{digits_div, digits_mod}
use Rattle.std.proofs.lemmas.Bool.{cases_lt, leb-true, leb-false, lt-ltb, cond_both}
use Rattle.arith.specs.Quotients.{ceiling}
use Rattle.arith.proofs.Quotients.{ceiling_digits}
use Rattle.supply.specs.Periodic.{periodic_bound}

-- q grants in each of the whole periods of u ticks, and those of the last part
unfoldable pub from_start : ℕ → ℕ → ℕ → ℕ
from_start q p u = u / p * q + (u % p - (p - q))

-- it is at most u
pub from_start_size : (q p : ℕ) → q ≤ p → (u : ℕ) → u / p * q + u % p ≤ u
from_start_size q p le u = omega (arith, div-add-mod' u p, mul-le-mul_left (u / p) le)

one_more : (j m : ℕ) → (j + 1) * m ≡ j * m + m
one_more j m = add-mul j 1 m ∙ ap (λ (x : ℕ). j * m + x) (one-mul m)

module _ (q p : ℕ) (one : 1 ≤ q) (le : q ≤ p) where
  pub from_start_digits : (k v : ℕ) → v < p → from_start q p (k * p + v) ≡ k * q + (v - (p - q))
  unfolding from_start
  from_start_digits k v h = rw (digits_div k h, digits_mod k h)

  pub from_start_at : (u : ℕ) → from_start q p u ≡ u / p * q + (u % p - (p - q))
  unfolding from_start
  from_start_at u = refl

  pub from_start_zero : from_start q p 0 ≡ 0
  unfolding from_start
  from_start_zero = rw (zero-div, zero-mod) (omega (arith, zero-mul q))

  from_start_step : (u : ℕ) → (from_start q p u ≤ from_start q p (u + 1)) × (from_start q p (u + 1) ≤ from_start q p u + 1)
  from_start_step u =
      let k : ℕ = u / p in
      let v : ℕ = u % p in
      let is : k * p + v ≡ u = div-add-mod' u p in
      let lt : v < p = mod-lt u (omega arith) in
      let here : from_start q p u ≡ k * q + (v - (p - q)) = from_start_at u in
      ⊎_elim
      (λ (h : v + 1 < p).
      let e : u + 1 ≡ k * p + (v + 1) = omega arith in
      let next : from_start q p (u + 1) ≡ k * q + ((v + 1) - (p - q)) = ap (from_start q p) e ∙ from_start_digits k (v + 1) h in
      (omega arith, omega arith))
      (λ (h : p ≤ v + 1).
      let e : u + 1 ≡ (k + 1) * p + 0 = omega (arith, one_more k p) in
      let next : from_start q p (u + 1) ≡ (k + 1) * q + (0 - (p - q)) = ap (from_start q p) e ∙ from_start_digits (k + 1) 0 (omega arith) in
      let m = one_more k q in
      (omega arith, omega arith))
      (cases_lt (v + 1) p)

  -- over b ticks more it does not fall, and grows by at most b
  pub from_start_more : (u b : ℕ) → (from_start q p u ≤ from_start q p (u + b)) × (from_start q p (u + b) ≤ from_start q p u + b)
  from_start_more u zero = let e : u + 0 ≡ u = omega arith in rw e (omega arith, omega arith)
  from_start_more u (suc b) =
      let e : u + suc b ≡ (u + b) + 1 = omega arith in
      let s = from_start_step (u + b) in
      let h = from_start_more u b in
      rw e (omega arith, omega arith)

  -- the first period, and what comes after it
  pub from_start_turn : (u : ℕ) → from_start q p u ≡ min q (u - (p - q)) + from_start q p (u - p)
  from_start_turn u =
      ⊎_elim
      (λ (h : u < p).
      let e : u ≡ 0 * p + u = omega (arith, zero-mul p) in
      let here : from_start q p u ≡ 0 * q + (u - (p - q)) = ap (from_start q p) e ∙ from_start_digits 0 u h in
      let f : u - p ≡ 0 = omega arith in
      let none : from_start q p (u - p) ≡ 0 = ap (from_start q p) f ∙ from_start_zero in
      let z = zero-mul q in
      omega arith)
      (λ (h : p ≤ u).
      let k : ℕ = (u - p) / p in
      let v : ℕ = (u - p) % p in
      let is : k * p + v ≡ u - p = div-add-mod' (u - p) p in
      let lt : v < p = mod-lt (u - p) (omega arith) in
      let rest : from_start q p (u - p) ≡ k * q + (v - (p - q)) = from_start_at (u - p) in
      let e : u ≡ (k + 1) * p + v = omega (arith, one_more k p) in
      let here : from_start q p u ≡ (k + 1) * q + (v - (p - q)) = ap (from_start q p) e ∙ from_start_digits (k + 1) v lt in
      let m = one_more k q in
      omega arith)
      (cases_lt u p)

  from_start_up : (j w : ℕ) → w < p → from_start q p (j * p + (w + 1)) ≡ j * q + ((w + 1) - (p - q))
  from_start_up j w lt =
      ⊎_elim
      (λ (h : w + 1 < p). from_start_digits j (w + 1) h)
      (λ (h : p ≤ w + 1).
      let e : j * p + (w + 1) ≡ (j + 1) * p + 0 = omega (arith, one_more j p) in
      let next : from_start q p (j * p + (w + 1)) ≡ (j + 1) * q + (0 - (p - q)) = ap (from_start q p) e ∙ from_start_digits (j + 1) 0 (omega arith) in
      let m = one_more j q in
      omega arith)
      (cases_lt (w + 1) p)

  -- the formula's second and third case, where k is j + 1; the second case's lower end always holds
  bound_up : (t j w : ℕ) → w < p → t ≡ (p - q) + (j * p + (w + 1))
      → cond (nat_lt ((j + 1) * p - q) t && nat_le t ((j + 1 + 1) * p - 2 * q)) ((j + 1 - 1) * q) (t - (j + 1 + 1) * (p - q)) ≡ from_start q p (j * p + (w + 1))
  bound_up t j w lt is =
      let up = from_start_up j w lt in
      let p1 = one_more j p in
      let p2 = one_more (j + 1) p in
      let d1 = one_more j (p - q) in
      let d2 = one_more (j + 1) (p - q) in
      let whole : p ≡ q + (p - q) = omega arith in
      let s : j * p ≡ j * q + j * (p - q) = ap (λ (x : ℕ). j * x) whole ∙ mul-add j q (p - q) in
      let z : j + 1 - 1 ≡ j = omega arith in
      let zq : (j + 1 - 1) * q ≡ j * q = ap (λ (x : ℕ). x * q) z in
      let above : ltb ((j + 1) * p - q) t ≡ true = lt-ltb ((j + 1) * p - q) t (omega arith) in
      let top : ℕ = (j + 1 + 1) * p - 2 * q in
      ap (λ b. cond (b && nat_le t top) ((j + 1 - 1) * q) (t - (j + 1 + 1) * (p - q))) above ∙
      cond_both (nat_le t top) ((j + 1 - 1) * q) (t - (j + 1 + 1) * (p - q)) (λ x. x ≡ from_start q p (j * p + (w + 1)))
      (λ b. let l : t ≤ top = leb-true t top b in omega arith)
      (λ b. let l : top < t = leb-false t top b in omega arith)

  -- the formula is what comes from a state whose period has p - q ticks left and none owed
  pub bound_closed : (t : ℕ) → periodic_bound q p t ≡ from_start q p (t - (p - q))
  unfolding periodic_bound
  bound_closed t =
      let k : ℕ = ceiling (t - (p - q)) p in
      cond_both (nat_le t (p - q)) 0 (cond (nat_lt (k * p - q) t && nat_le t ((k + 1) * p - 2 * q)) ((k - 1) * q) (t - (k + 1) * (p - q))) (λ x. x ≡ from_start q p (t - (p - q)))
      (λ b.
      let l : t ≤ p - q = leb-true t (p - q) b in
      let e : t - (p - q) ≡ 0 = omega arith in
      sym (ap (from_start q p) e ∙ from_start_zero))
      (λ b.
      let l : p - q < t = leb-false t (p - q) b in
      let u : ℕ = t - (p - q) - 1 in
      let j : ℕ = u / p in
      let w : ℕ = u % p in
      let is : j * p + w ≡ u = div-add-mod' u p in
      let lt : w < p = mod-lt u (omega arith) in
      let e : t - (p - q) ≡ j * p + (w + 1) = omega arith in
      let ke : j + 1 ≡ k = sym (ap (λ (x : ℕ). ceiling x p) e ∙ ceiling_digits p (omega arith) j w lt) in
      let P : ℕ → Type 0 = λ x. cond (nat_lt (x * p - q) t && nat_le t ((x + 1) * p - 2 * q)) ((x - 1) * q) (t - (x + 1) * (p - q)) ≡ from_start q p (t - (p - q)) in
      subst P ke (bound_up t j w lt (omega arith) ∙ ap (from_start q p) (sym e)))
