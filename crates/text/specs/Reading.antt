-- What a text is read as, or the first fault in it. Assumes nothing.
use Rattle.std.specs.Prelude.{ℕ, zero, suc, ◌-◌, ◌*◌, ◌/◌, ◌%◌, Bool, cond, ◌&&◌, List, [], ◌∷◌, length, take, drop, Ok, Err, Result, ◌==◌, nat_le, nat_lt, slice_index}
use Rattle.std.specs.Option.{ok_or}
use Rattle.fault.specs.declared.fault.Fault.{Fault}
use Rattle.fault.specs.declared.rule.Rule.TheVariants.{KnownOrder, LineFeed, WellFormed, WholeLines}
use Rattle.fault.specs.Rules.{fault_number, fault_of}
use Rattle.fault.specs.Steps.{and_then}
use Rattle.text.specs.declared.triple.Triple.{Triple}
use Rattle.text.specs.Fields.{Fits, field_read}
use Rattle.text.specs.Texts.{order_of}

-- the bytes of the field j of a line, counted from 1
abbrev pub field_bytes : List ℕ → ℕ → List ℕ
field_bytes bs j = take 8 (drop (8 * (j - 1)) bs)

-- the field j of the line i, both counted from 1
abbrev pub field_at : List ℕ → ℕ → ℕ → Result ℕ Fault
field_at bs i j = ok_or (field_read (field_bytes bs j)) (fault_of WellFormed i j)

-- the three fields of the line i, from the left
abbrev pub fields_read : List ℕ → ℕ → Result Triple Fault
fields_read bs i =
    and_then (field_at bs i 1) (λ x. and_then (field_at bs i 2) (λ y. and_then (field_at bs i 3) (λ z. Ok (record { first = x; second = y; third = z }))))

-- the line i: its line feed is asked for before its fields
abbrev pub line_read : List ℕ → ℕ → Result Triple Fault
line_read bs i = cond (slice_index bs 24 == 10) (fields_read bs i) (Err (fault_of LineFeed i 0))

-- k lines, the first of which is the line i
abbrev pub lines_read : ℕ → List ℕ → ℕ → Result (List Triple) Fault
lines_read zero bs i = Ok []
lines_read (suc k) bs i = and_then (line_read (take 25 bs) i) (λ t. and_then (lines_read k (drop 25 bs) (suc i)) (λ ts. Ok (t ∷ ts)))

-- so many bytes are 1 to 17 whole lines
abbrev pub whole_lines : ℕ → Bool
whole_lines n = nat_lt 0 n && (n % 25 == 0 && nat_le n 425)

-- a text of 1 to 17 lines, whatever its numbers mean
unfoldable pub text_read : List ℕ → Result (List Triple) Fault
text_read bs = cond (whole_lines (length bs)) (lines_read (length bs / 25) bs 1) (Err (fault_of WholeLines 0 0))

-- the first number is an order
abbrev pub order_checked : List Triple → Result Unit Fault
order_checked ts = cond (nat_le 1 (order_of ts) && nat_le (order_of ts) 2) (Ok tt) (Err (fault_of KnownOrder 1 1))

-- a text whose first number is an order
abbrev pub table_read : List ℕ → Result (List Triple) Fault
table_read bs = and_then (text_read bs) (λ ts. and_then (order_checked ts) (λ _. Ok ts))

-- the fault's numbers fit into fields, so that it can be written as a line
abbrev pub Printable : Fault → Type 0
Printable f = Fits (fault_number f) × Fits f.place.0 × Fits f.place.1

-- where there is a refusal, its fault can be printed
abbrev pub PrintableRefusal : {X : Type 0} → Result X Fault → Type 0
PrintableRefusal (Ok x) = Unit {0}
PrintableRefusal (Err f) = Printable f

-- the answer is what the bytes spell, and a refusal says that they spell nothing
abbrev pub Tells : (List Triple → List ℕ → Type 0) → List ℕ → Result (List Triple) Fault → Type 0
Tells Spelling bs (Ok ts) = Spelling ts bs
Tells Spelling bs (Err f) = (ts : List Triple) → Spelling ts bs → ⊥
