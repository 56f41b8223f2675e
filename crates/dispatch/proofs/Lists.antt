-- Lists with one element changed or with every element mapped: what holds at a place, and sums. Assumes nothing.
use Rattle.std.proofs.Common.{◌≡◌, ℕ, zero, suc, ◌+◌, ◌<◌, ◌≤◌, List, [], ◌∷◌, map, length, get_or, set, refl, ap, ◌∙◌, sum_by, arith}
use Rattle.std.proofs.lemmas.List.Sums.{sum_by-cons}
use Rattle.std.specs.List.{AllByRecursion}
use Rattle.dispatch.specs.Jobs.{change}

-- P holds of the element at i, which is there
abbrev pub At : {A : Type 0} → (A → Type 0) → ℕ → List A → Type 0
At P i [] = ⊥
At P zero (x ∷ xs) = P x
At P (suc i) (x ∷ xs) = At P i xs

-- what holds at a place

module _ {A : Type 0} where
  pub at_get_or : (P : A → Type 0) (d : A) (i : ℕ) (xs : List A) → At P i xs → P (get_or xs i d)
  at_get_or P d i [] at = absurd at
  at_get_or P d zero (x ∷ xs) at = at
  at_get_or P d (suc i) (x ∷ xs) at = at_get_or P d i xs at

  pub at_within : (P : A → Type 0) (i : ℕ) (xs : List A) → At P i xs → i < length xs
  at_within P i [] at = absurd at
  at_within P zero (x ∷ xs) at = omega arith
  at_within P (suc i) (x ∷ xs) at = omega (arith, at_within P i xs at)

  pub at_from : (P : A → Type 0) (d : A) (i : ℕ) (xs : List A) → i < length xs → P (get_or xs i d) → At P i xs
  at_from P d i [] lt p = absurd (omega arith)
  at_from P d zero (x ∷ xs) lt p = p
  at_from P d (suc i) (x ∷ xs) lt p = at_from P d i xs (omega arith) p

  pub at_of_all : (P : A → Type 0) (i : ℕ) (xs : List A) → i < length xs → AllByRecursion P xs → At P i xs
  at_of_all P i [] lt all = absurd (omega arith)
  at_of_all P zero (x ∷ xs) lt all = all.0
  at_of_all P (suc i) (x ∷ xs) lt all = at_of_all P i xs (omega arith) all.1

  -- lengths and elements

  pub length-change : (g : A → A) (i : ℕ) (xs : List A) → length (change g i xs) ≡ length xs
  length-change g i [] = refl
  length-change g zero (x ∷ xs) = refl
  length-change g (suc i) (x ∷ xs) = ap suc (length-change g i xs)

  pub get_or-change_same : (g : A → A) (d : A) (i : ℕ) (xs : List A) → i < length xs → get_or (change g i xs) i d ≡ g (get_or xs i d)
  get_or-change_same g d i [] lt = absurd (omega arith)
  get_or-change_same g d zero (x ∷ xs) lt = refl
  get_or-change_same g d (suc i) (x ∷ xs) lt = get_or-change_same g d i xs (omega arith)

  pub get_or-change_other : (g : A → A) (d : A) (k i : ℕ) → (k ≡ i → ⊥) → (xs : List A) → get_or (change g k xs) i d ≡ get_or xs i d
  get_or-change_other g d k i ne [] = refl
  get_or-change_other g d zero zero ne (x ∷ xs) = absurd (ne refl)
  get_or-change_other g d (suc k) zero ne (x ∷ xs) = refl
  get_or-change_other g d zero (suc i) ne (x ∷ xs) = refl
  get_or-change_other g d (suc k) (suc i) ne (x ∷ xs) = get_or-change_other g d k i (λ e. ne (ap suc e)) xs

  -- a change as code makes it: the element x is read, and what it becomes is written back
  pub change_set : (g : A → A) (xs : List A) (i : ℕ) (x : A) → i < length xs → x ≡ get_or xs i x → set xs i (g x) ≡ change g i xs
  change_set g [] i x lt is = refl
  change_set g (y ∷ xs) zero x lt is = ap (λ z. g z ∷ xs) is
  change_set g (y ∷ xs) (suc i) x lt is = ap (λ zs. y ∷ zs) (change_set g xs i x (omega arith) is)

  pub change_past : (g : A → A) (xs : List A) (i : ℕ) → length xs ≤ i → change g i xs ≡ xs
  change_past g [] i le = refl
  change_past g (y ∷ xs) zero le = absurd (omega arith)
  change_past g (y ∷ xs) (suc i) le = ap (λ zs. y ∷ zs) (change_past g xs i (omega arith))

  -- what a change leaves in each element, it leaves in the list
  pub map-change : {B : Type 0} (f : A → B) (g : A → A) → ((x : A) → f (g x) ≡ f x) → (i : ℕ) (xs : List A) → map f (change g i xs) ≡ map f xs
  map-change f g same i [] = refl
  map-change f g same zero (x ∷ xs) = ap (λ y. y ∷ map f xs) (same x)
  map-change f g same (suc i) (x ∷ xs) = ap (λ ys. f x ∷ ys) (map-change f g same i xs)

  pub map-map : {B : Type 0} (f : A → B) (g : A → A) → ((x : A) → f (g x) ≡ f x) → (xs : List A) → map f (map g xs) ≡ map f xs
  map-map f g same [] = refl
  map-map f g same (x ∷ xs) = ap (λ y. y ∷ map f (map g xs)) (same x) ∙ ap (λ ys. f x ∷ ys) (map-map f g same xs)

-- sums

-- where each element that P holds of is worth no more by f than by h, so is the list
pub sum_by_le_where : {A : Type 0} (P : A → Type 0) (f h : A → ℕ) → ((x : A) → P x → f x ≤ h x) → (xs : List A) → AllByRecursion P xs → sum_by f xs ≤ sum_by h xs
sum_by_le_where P f h le [] all = omega arith
sum_by_le_where P f h le (x ∷ xs) all = omega (arith, sum_by-cons f x xs, sum_by-cons h x xs, le x all.0, sum_by_le_where P f h le xs all.1)

-- where the changed element is worth a more and b less than it was, so is the list
pub sum_by_change_by : {A : Type 0} (Q : A → Type 0) (f : A → ℕ) (g : A → A) (a b : ℕ) → ((x : A) → Q x → f (g x) + b ≡ f x + a)
    → (i : ℕ) (xs : List A) → At Q i xs → sum_by f (change g i xs) + b ≡ sum_by f xs + a
sum_by_change_by Q f g a b by i [] at = absurd at
sum_by_change_by Q f g a b by zero (x ∷ xs) at = omega (arith, sum_by-cons f x xs, sum_by-cons f (g x) xs, by x at)
sum_by_change_by Q f g a b by (suc i) (x ∷ xs) at =
    omega (arith, sum_by-cons f x xs, sum_by-cons f x (change g i xs), sum_by_change_by Q f g a b by i xs at)

-- the sum over a mapped list
pub sum_by-map : {A B : Type 0} (f : B → ℕ) (g : A → B) (xs : List A) → sum_by f (map g xs) ≡ sum_by (λ x. f (g x)) xs
sum_by-map f g [] = refl
sum_by-map f g (x ∷ xs) = omega (arith, sum_by-cons f (g x) (map g xs), sum_by-cons (λ y. f (g y)) x xs, sum_by-map f g xs)
