-- What the decisions answer, for the rows of a table and a supply that promises B(t) in any t ticks. Rows are counted
-- from 0 here and from 1 in a fault. Assumes nothing.
use Rattle.std.specs.Prelude.{◌≡◌, ℕ, ◌+◌, ◌<◌, ◌≤◌, ◌⊎◌, List, length, Ok, Err, Result, slice_index}
use Rattle.fault.specs.declared.fault.Fault.{Fault}
use Rattle.fault.specs.declared.rule.Rule.TheVariants.{NoOverload, RowInTime, WindowCloses}
use Rattle.fault.specs.Rules.{fault_of}
use Rattle.table.specs.declared.row.Row.{Row}
use Rattle.table.specs.Sums.{requested, workload, demand, row_at}
use Rattle.decision.specs.Least.{Least, NoneIn}

-- L: the least time from 1 to 1,000,000 with S(t) ≤ B(t)
abbrev pub Window : List Row → (ℕ → ℕ) → ℕ → Type 0
Window rs B l = Least (λ t. requested rs t ≤ B t) 1 1000000 l

abbrev pub NoWindow : List Row → (ℕ → ℕ) → Type 0
NoWindow rs B = NoneIn (λ t. requested rs t ≤ B t) 1 1000000

abbrev pub open_fault : Fault
open_fault = fault_of WindowCloses 0 1000000

abbrev pub Windowed : List Row → (ℕ → ℕ) → Result ℕ Fault → Type 0
Windowed rs B (Ok l) = Window rs B l
Windowed rs B (Err f) = NoWindow rs B × (f ≡ open_fault)

-- R: the least time from 1 to the deadline of row i with W(i, t) ≤ B(t)
abbrev pub Response : List Row → (ℕ → ℕ) → ℕ → ℕ → Type 0
Response rs B i r = Least (λ t. workload rs i t ≤ B t) 1 (row_at rs i).deadline r

abbrev pub NoResponse : List Row → (ℕ → ℕ) → ℕ → Type 0
NoResponse rs B i = NoneIn (λ t. workload rs i t ≤ B t) 1 (row_at rs i).deadline

abbrev pub miss_fault : List Row → ℕ → Fault
miss_fault rs i = fault_of RowInTime (i + 1) (row_at rs i).deadline

-- fixed priority: the response of each row, or the first row that has none
abbrev pub Prioritised : List Row → (ℕ → ℕ) → Result (List ℕ) Fault → Type 0
Prioritised rs B (Ok times) = (length times ≡ length rs) × ((i : ℕ) → i < length rs → Response rs B i (slice_index times i))
Prioritised rs B (Err f) = (i : ℕ) × (i < length rs) × ((j : ℕ) → j < i → (r : ℕ) × Response rs B j r) × NoResponse rs B i × (f ≡ miss_fault rs i)

-- H(t) ≤ B(t) for every t, without upper limit
abbrev pub DemandMet : List Row → (ℕ → ℕ) → Type 0
DemandMet rs B = (t : ℕ) → demand rs t ≤ B t

-- t is the least with H(t) > B(t)
abbrev pub FirstOverload : List Row → (ℕ → ℕ) → ℕ → Type 0
FirstOverload rs B t = (B t < demand rs t) × ((k : ℕ) → k < t → demand rs k ≤ B k)

-- earliest deadline: the window, or why not; an overload always shows below the window
abbrev pub Scheduled : List Row → (ℕ → ℕ) → Result ℕ Fault → Type 0
Scheduled rs B (Ok l) = Window rs B l × DemandMet rs B
Scheduled rs B (Err f) = (NoWindow rs B × (f ≡ open_fault))
    ⊎ ((l : ℕ) × (t : ℕ) × Window rs B l × (t < l) × FirstOverload rs B t × (f ≡ fault_of NoOverload 0 t))
