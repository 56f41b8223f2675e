-- The decisions' definitions allow one answer at most. Assumes nothing.
use Rattle.std.specs.Prelude.{◌≡◌, ℕ, List}
use Rattle.table.specs.declared.row.Row.{Row}
use Rattle.decision.specs.Decisions.{Windowed, Prioritised, Scheduled}

abbrev pub OneAtMost : {A : Type 0} → (A → Type 0) → Type 0
OneAtMost {A} P = (a b : A) → P a → P b → a ≡ b

abbrev pub OneWindow : Type 0
OneWindow = (rs : List Row) (B : ℕ → ℕ) → OneAtMost (Windowed rs B)

abbrev pub OnePriority : Type 0
OnePriority = (rs : List Row) (B : ℕ → ℕ) → OneAtMost (Prioritised rs B)

abbrev pub OneSchedule : Type 0
OneSchedule = (rs : List Row) (B : ℕ → ℕ) → OneAtMost (Scheduled rs B)
