-- Worked cases, by the definitions of the bound and of the decisions. Assumes nothing.
use Rattle.std.specs.Prelude.{◌≡◌, ℕ, List, [], ◌∷◌, Ok, Err}
use Rattle.std.proofs.Common.{arith}
use Rattle.fault.specs.declared.rule.Rule.TheVariants.{RowInTime}
use Rattle.fault.specs.Rules.{fault_of}
use Rattle.supply.specs.Periodic.{periodic_bound}
use Rattle.table.specs.declared.row.Row.{Row}
use Rattle.table.specs.Rows.{InBounds}
use Rattle.decision.specs.Decisions.{Prioritised, Scheduled, open_fault}

-- a row by its cost, period and deadline
abbrev pub row : (cost period deadline : ℕ) → InBounds cost period deadline → Row
row cost period deadline h = record { cost = cost; period = period; deadline = deadline; work = (h.0, h.1); time = (h.2, h.3) }

-- the server (2, 4)
abbrev pub ServerBounds : Type 0
ServerBounds = (periodic_bound 2 4 4 ≡ 0) × (periodic_bound 2 4 5 ≡ 1) × (periodic_bound 2 4 6 ≡ 2)
    × (periodic_bound 2 4 8 ≡ 2) × (periodic_bound 2 4 10 ≡ 4) × (periodic_bound 2 4 14 ≡ 6)

-- two rows over the server (2, 4): responses 6 and 14, and a window of 14
abbrev pub two_rows : List Row
two_rows = row 2 7 7 (omega arith, omega arith, omega arith, omega arith) ∷ row 2 15 15 (omega arith, omega arith, omega arith, omega arith) ∷ []

abbrev pub TwoRows : Type 0
TwoRows = Prioritised two_rows (periodic_bound 2 4) (Ok (6 ∷ 14 ∷ [])) × Scheduled two_rows (periodic_bound 2 4) (Ok 14)

-- three rows on a whole processor: responses 10, 20 and 52
abbrev pub first_row : Row
first_row = row 10 30 30 (omega arith, omega arith, omega arith, omega arith)

abbrev pub second_row : Row
second_row = row 10 40 40 (omega arith, omega arith, omega arith, omega arith)

abbrev pub three_rows : List Row
three_rows = first_row ∷ second_row ∷ row 12 52 52 (omega arith, omega arith, omega arith, omega arith) ∷ []

abbrev pub ThreeRows : Type 0
ThreeRows = Prioritised three_rows (periodic_bound 1 1) (Ok (10 ∷ 20 ∷ 52 ∷ []))

-- with a deadline of 51 the third row has no response
abbrev pub short_deadline : List Row
short_deadline = first_row ∷ second_row ∷ row 12 52 51 (omega arith, omega arith, omega arith, omega arith) ∷ []

abbrev pub ShortDeadline : Type 0
ShortDeadline = Prioritised short_deadline (periodic_bound 1 1) (Err (fault_of RowInTime 3 51))

-- the server (1, 4) is too small for one row
abbrev pub SmallBudget : Type 0
SmallBudget = Prioritised (row 2 7 7 (omega arith, omega arith, omega arith, omega arith) ∷ []) (periodic_bound 1 4) (Err (fault_of RowInTime 1 7))

-- two rows that fill a whole processor, which is admitted
abbrev pub half_row : Row
half_row = row 1 2 2 (omega arith, omega arith, omega arith, omega arith)

abbrev pub FullProcessor : Type 0
FullProcessor = Scheduled (half_row ∷ half_row ∷ []) (periodic_bound 1 1) (Ok 2)

-- over the server (3, 4) their window does not close
abbrev pub OverFull : Type 0
OverFull = Scheduled (half_row ∷ half_row ∷ []) (periodic_bound 3 4) (Err open_fault)

-- a table without rows is accepted over every supply, with a window of 1
abbrev pub NoRows : Type 0
NoRows = (B : ℕ → ℕ) → Prioritised [] B (Ok []) × Scheduled [] B (Ok 1)
