-- Quotients, rounded down and up. Assumes nothing.
use Rattle.std.proofs.Common.{◌≡◌, ℕ, ◌+◌, ◌-◌, ◌*◌, ◌/◌, ◌<◌, ◌≤◌, ◌⊎◌, ap, ◌∙◌, inl, inr, ⊎_elim, div-lt_iff_lt-mul, add-mul, one-mul, div-mul-le_self, arith}
use lib.Arith.{digits_div}
use Rattle.std.proofs.lemmas.Nat.{le-div, div_below}
use Rattle.std.proofs.lemmas.Bool.{cases_lt}
use Rattle.arith.specs.Quotients.{ceiling}

module _ (m : ℕ) (some : 1 ≤ m) where
  -- a larger number has no smaller quotient
  pub div_mono : (a b : ℕ) → a ≤ b → a / m ≤ b / m
  div_mono a b h = le-div (a / m) b m some (omega (arith, div-mul-le_self a m))

  -- a number lies below the next multiple
  pub below_next : (a : ℕ) → a < a / m * m + m
  below_next a =
      let top : a < (a / m + 1) * m = (div-lt_iff_lt-mul {k = m} {x = a} {y = a / m + 1} some).0 (omega arith) in
      omega (arith, add-mul (a / m) 1 m, one-mul m)

  pub ceiling_mono : (a b : ℕ) → a ≤ b → ceiling a m ≤ ceiling b m
  unfolding ceiling
  ceiling_mono a b h = div_mono (a + (m - 1)) (b + (m - 1)) (omega arith)

  -- a ≤ ⌈a / m⌉ · m < a + m
  pub ceiling_covers : (a : ℕ) → a ≤ ceiling a m * m
  unfolding ceiling
  ceiling_covers a = omega (arith, below_next (a + (m - 1)))

  pub ceiling_tight : (a : ℕ) → ceiling a m * m < a + m
  unfolding ceiling
  ceiling_tight a = omega (arith, div-mul-le_self (a + (m - 1)) m)

  -- ⌈(j · m + (w + 1)) / m⌉ = j + 1 where w < m
  pub ceiling_digits : (j w : ℕ) → w < m → ceiling (j * m + (w + 1)) m ≡ j + 1
  unfolding ceiling
  ceiling_digits j w h =
      let e : (j * m + (w + 1)) + (m - 1) ≡ (j + 1) * m + w = omega (arith, add-mul j 1 m, one-mul m) in
      ap (λ (x : ℕ). x / m) e ∙ digits_div (j + 1) h

  -- ⌊(a + b) / m⌋ ≤ ⌈b / m⌉ + ⌊a / m⌋
  pub div_split : (a b : ℕ) → (a + b) / m ≤ ceiling b m + a / m
  div_split a b =
      let k : ℕ = ceiling b m in
      let top : a + b < (k + a / m + 1) * m =
      omega (arith, below_next a, ceiling_covers b, add-mul (k + a / m) 1 m, add-mul k (a / m) m, one-mul m) in
      let low : (a + b) / m < k + a / m + 1 = div_below (a + b) m (k + a / m + 1) some top in
      omega arith

  -- where n has a multiple more than x, it has a quotient one larger
  pub div_next : (x n : ℕ) → m ≤ n → (x < m) ⊎ (x + m ≤ n) → x / m + 1 ≤ n / m
  div_next x n le h =
      ⊎_elim
      (λ small.
      let none : x / m < 1 = div_below x m 1 some (omega (arith, one-mul m)) in
      let one : 1 ≤ n / m = le-div 1 n m some (omega (arith, one-mul m)) in
      omega arith)
      (λ more. le-div (x / m + 1) n m some (omega (arith, add-mul (x / m) 1 m, one-mul m, div-mul-le_self x m)))
      h

  -- ⌈(a - m) / m⌉ + 1 ≤ ⌈a / m⌉ where 0 < a
  pub ceiling_next : (a : ℕ) → 0 < a → ceiling (a - m) m + 1 ≤ ceiling a m
  unfolding ceiling
  ceiling_next a pos =
      div_next (a - m + (m - 1)) (a + (m - 1)) (omega arith) (⊎_elim (λ l. inl (omega arith)) (λ l. inr (omega arith)) (cases_lt a m))
