-- The rows of a table, and what adding one does. Assumes nothing.
use Rattle.std.specs.Prelude.{◌≡◌, ℕ, ◌+◌, ◌<◌, ◌⊎◌, List, [], ◌∷◌, ◌++◌, length, Ok, Err, Result}
use Rattle.fault.specs.declared.fault.Fault.{Fault}
use Rattle.fault.specs.declared.rule.Rule.TheVariants as rule
use Rattle.fault.specs.Rules.{fault_of}
use Rattle.bounded.specs.Items.{items_of}
use Rattle.table.specs.declared.row.Row.{Row}
use Rattle.table.specs.declared.table.Table.{Table}
use Rattle.table.specs.Rows.{InBounds, RowIs}

abbrev pub rows_of : Table → List Row
rows_of t = items_of t.rows

-- sixteen rows are there already
abbrev pub Full : Table → Fault → Type 0
Full t f = (length (rows_of t) ≡ 16) × (f ≡ fault_of rule.RoomForRow 16 0)

-- there is room, but the row, counted from 1, breaks its bounds
abbrev pub Broken : ℕ → ℕ → ℕ → Table → Fault → Type 0
Broken cost period deadline t f =
    (length (rows_of t) < 16) × (InBounds cost period deadline → ⊥) × (f ≡ fault_of rule.RowBounds (length (rows_of t) + 1) 0)

-- the row goes last; a refused one leaves the table as it was
abbrev pub Added : ℕ → ℕ → ℕ → Table → Table → Result Unit Fault → Type 0
Added cost period deadline before after (Ok _) =
    (length (rows_of before) < 16) × ((r : Row) × RowIs cost period deadline r × (rows_of after ≡ rows_of before ++ r ∷ []))
Added cost period deadline before after (Err f) = (after ≡ before) × (Full before f ⊎ Broken cost period deadline before f)
