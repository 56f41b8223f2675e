-- Sums over a list of which one element is changed, and over its front. Assumes nothing.
use Rattle.std.proofs.Common.{◌≡◌, ℕ, zero, suc, ◌+◌, ◌<◌, ◌≤◌, List, [], ◌∷◌, length, get_or, take, refl, ap, sum_by, arith}
use Rattle.std.proofs.lemmas.List.Sums.{sum_by-cons}
use Rattle.dispatch.specs.Jobs.{change}
use Rattle.dispatch.proofs.Lists.{At}

-- where the changed element weighs less by m, so does the list
pub sum_by_change_at : {A : Type 0} (Q : A → Type 0) (f : A → ℕ) (g : A → A) (m : ℕ) → ((x : A) → Q x → f (g x) + m ≤ f x)
    → (i : ℕ) (xs : List A) → At Q i xs → sum_by f (change g i xs) + m ≤ sum_by f xs
sum_by_change_at Q f g m less i [] at = absurd at
sum_by_change_at Q f g m less zero (x ∷ xs) at = omega (arith, sum_by-cons f x xs, sum_by-cons f (g x) xs, less x at)
sum_by_change_at Q f g m less (suc i) (x ∷ xs) at =
    omega (arith, sum_by-cons f x xs, sum_by-cons f x (change g i xs), sum_by_change_at Q f g m less i xs at)

-- where no element weighs more by the change, neither does the list
pub sum_by_change_any : {A : Type 0} (f : A → ℕ) (g : A → A) → ((x : A) → f (g x) ≤ f x) → (i : ℕ) (xs : List A) → sum_by f (change g i xs) ≤ sum_by f xs
sum_by_change_any f g less i [] = omega arith
sum_by_change_any f g less zero (x ∷ xs) = omega (arith, sum_by-cons f x xs, sum_by-cons f (g x) xs, less x)
sum_by_change_any f g less (suc i) (x ∷ xs) = omega (arith, sum_by-cons f x xs, sum_by-cons f x (change g i xs), sum_by_change_any f g less i xs)

-- where each element weighs nothing, so does the list
pub sum_by_zero : {A : Type 0} (f : A → ℕ) (d : A) (xs : List A) → ((k : ℕ) → k < length xs → f (get_or xs k d) ≡ 0) → sum_by f xs ≡ 0
sum_by_zero f d [] none = refl
sum_by_zero f d (x ∷ xs) none =
    omega (arith, sum_by-cons f x xs, none 0 (omega arith), sum_by_zero f d xs (λ k lt. none (suc k) (omega arith)))

-- the front of a list with one element changed

pub take-change : {A : Type 0} (g : A → A) (k i : ℕ) (xs : List A) → take i (change g k xs) ≡ change g k (take i xs)
take-change g k zero xs = refl
take-change g k (suc i) [] = refl
take-change g zero (suc i) (x ∷ xs) = refl
take-change g (suc k) (suc i) (x ∷ xs) = ap (λ ys. x ∷ ys) (take-change g k i xs)

pub at_take : {A : Type 0} (P : A → Type 0) (k i : ℕ) (xs : List A) → k < i → At P k xs → At P k (take i xs)
at_take P k i [] lt at = absurd at
at_take P k zero (x ∷ xs) lt at = absurd (omega arith)
at_take P zero (suc i) (x ∷ xs) lt at = at
at_take P (suc k) (suc i) (x ∷ xs) lt at = at_take P k i xs (omega arith) at
