-- What a table text asks to have decided, or the first fault in it. Assumes nothing.
use Rattle.std.specs.Prelude.{◌≡◌, ℕ, ◌+◌, ◌<◌, ◌⊎◌, List, [], ◌∷◌, map, length, Ok, Err, Result, slice_index_or}
use Rattle.fault.specs.declared.fault.Fault.{Fault}
use Rattle.fault.specs.declared.rule.Rule.TheVariants as rule
use Rattle.fault.specs.Rules.{fault_of}
use Rattle.text.specs.declared.triple.Triple.{Triple}
use Rattle.text.specs.Reading.{table_read}
use Rattle.supply.specs.Periodic.{InRange}
use Rattle.supply.specs.Server.{fresh}
use Rattle.table.specs.declared.row.Row.{Row}
use Rattle.table.specs.declared.table.Table.{Table}
use Rattle.table.specs.Rows.{InBounds}
use Rattle.table.specs.Tables.{rows_of}
use Rattle.report.specs.declared.task.Task.{Task}
use Rattle.text.specs.Policies.{policy_number}

-- the three numbers of a row as a text has them: C, T and D
abbrev pub row_triple : Row → Triple
row_triple r = record { first = r.cost; second = r.period; third = r.deadline }

-- the rows are those that the triples write
abbrev pub RowsAre : List Row → List Triple → Type 0
RowsAre rs ts = map row_triple rs ≡ ts

abbrev pub no_triple : Triple
no_triple = record { first = 0; second = 0; third = 0 }

-- the triple i, counted from 0, writes a row within its bounds
abbrev pub SoundAt : List Triple → ℕ → Type 0
SoundAt ts i = InBounds (slice_index_or ts i no_triple).first (slice_index_or ts i no_triple).second (slice_index_or ts i no_triple).third

-- 32 at the first row, counted from 1, that breaks its bounds
abbrev pub FirstBroken : List Triple → Fault → Type 0
FirstBroken ts f = (i : ℕ) × (i < length ts) × ((j : ℕ) → j < i → SoundAt ts j) × (SoundAt ts i → ⊥) × (f ≡ fault_of rule.RowBounds (i + 1) 0)

abbrev pub RowsRead : List Triple → Result Table Fault → Type 0
RowsRead ts (Ok table) = RowsAre (rows_of table) ts
RowsRead ts (Err f) = FirstBroken ts f

-- what the first triple (order, Q, P) and the rows' triples ask for: the reservation is checked before the rows
abbrev pub Asks : Triple → List Triple → Result Task Fault → Type 0
Asks head rows (Ok task) = (policy_number task.policy ≡ head.first)
    × ((h : InRange head.second head.third) × (task.server ≡ fresh head.second head.third h))
    × RowsAre (rows_of task.table) rows
Asks head rows (Err f) = ((InRange head.second head.third → ⊥) × (f ≡ fault_of rule.Reservation head.second head.third))
    ⊎ (InRange head.second head.third × FirstBroken rows f)

-- a fault of the text is passed on
abbrev pub AsksAll : Result (List Triple) Fault → Result Task Fault → Type 0
AsksAll (Ok []) r = ⊥
AsksAll (Ok (head ∷ rows)) r = Asks head rows r
AsksAll (Err f) r = r ≡ Err f

abbrev pub TaskRead : List ℕ → Result Task Fault → Type 0
TaskRead bs r = AsksAll (table_read bs) r
