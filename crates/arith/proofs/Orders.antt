-- The order of numbers. Assumes nothing.
use Rattle.std.proofs.Common.{◌≡◌, ℕ, ◌<◌, ⊎_elim}
use Rattle.std.proofs.lemmas.Bool.{cases_order}

-- two numbers of which neither is below the other are the same
pub neither_below : (a b : ℕ) → (a < b → ⊥) → (b < a → ⊥) → a ≡ b
neither_below a b p q = ⊎_elim (λ e. e) (⊎_elim (λ h. absurd (p h)) (λ h. absurd (q h))) (cases_order a b)
