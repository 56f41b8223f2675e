-- What writing triples answers, and which bytes it leaves. Assumes nothing.
use Rattle.std.specs.Prelude.{◌≡◌, ℕ, suc, ◌*◌, ◌^◌, ◌≤◌, Bool, cond, ◌&&◌, List, [], ◌∷◌, ◌++◌, length, drop, Ok, Err, Result, nat_le, nat_lt}
use Rattle.std.specs.List.{AllByRecursion}
use Rattle.fault.specs.declared.fault.Fault.{Fault}
use Rattle.fault.specs.declared.rule.Rule.TheVariants.{RoomToWrite, WellFormed, WholeLines}
use Rattle.fault.specs.Rules.{fault_of}
use Rattle.fault.specs.Steps.{and_then}
use Rattle.text.specs.declared.triple.Triple.{Triple}
use Rattle.text.specs.Texts.{Fitting, TableOrder, order_of, text_of}
use Rattle.text.specs.Reading.{order_checked}

-- the number n fits, which is to be the field j of the line i
abbrev pub number_checked : ℕ → ℕ → ℕ → Result Unit Fault
number_checked n i j = cond (nat_lt n (10 ^ 8)) (Ok tt) (Err (fault_of WellFormed i j))

-- the numbers of a triple, from the left
abbrev pub triple_checked : Triple → ℕ → Result Unit Fault
triple_checked t i =
    and_then (number_checked t.first i 1) (λ _. and_then (number_checked t.second i 2) (λ _. number_checked t.third i 3))

-- the triples, of which the first is to be the line i
abbrev pub triples_checked : List Triple → ℕ → Result Unit Fault
triples_checked [] i = Ok tt
triples_checked (t ∷ ts) i = and_then (triple_checked t i) (λ _. triples_checked ts (suc i))

-- so many triples make a text
abbrev pub few_lines : ℕ → Bool
few_lines n = nat_le 1 n && nat_le n 17

-- room for the longest text, then 1 to 17 triples, then numbers that fit
unfoldable pub lines_checked : List Triple → ℕ → Result Unit Fault
lines_checked ts room =
    cond (nat_lt room 425) (Err (fault_of RoomToWrite 0 room)) (cond (few_lines (length ts)) (triples_checked ts 1) (Err (fault_of WholeLines 0 0)))

-- the same, and then an order
abbrev pub table_checked : List Triple → ℕ → Result Unit Fault
table_checked ts room = and_then (lines_checked ts room) (λ _. order_checked ts)

-- 25 bytes for each triple are written into a list with room for so many
abbrev pub lines_written : List Triple → ℕ → Result ℕ Fault
lines_written ts room = and_then (lines_checked ts room) (λ _. Ok (25 * length ts))

-- the same of a table
abbrev pub table_written : List Triple → ℕ → Result ℕ Fault
table_written ts room = and_then (table_checked ts room) (λ _. Ok (25 * length ts))

-- what can be written: 1 to 17 triples of numbers that fit, into a list with room for the longest text
pub record Writable (ts : List Triple) (room : ℕ) : Type 0 where
  pub roomy : 425 ≤ room
  pub some : 1 ≤ length ts
  pub few : length ts ≤ 17
  pub fits : AllByRecursion Fitting ts

-- and of a table: the first number is an order
abbrev pub WritableTable : List Triple → ℕ → Type 0
WritableTable ts room = Writable ts room × TableOrder (order_of ts)

-- there is an answer where P holds, and a refusal where it does not
abbrev pub JustWhere : {X : Type 0} → Type 0 → Result X Fault → Type 0
JustWhere P (Ok x) = P
JustWhere P (Err f) = P → ⊥

-- the bytes after writing the triples over the bytes before: their text and then the old bytes, or all the old ones where it was refused
abbrev pub Leaves : Result ℕ Fault → List Triple → List ℕ → List ℕ → Type 0
Leaves (Ok n) ts before after = (after ≡ text_of ts ++ drop n before) × (n ≡ 25 * length ts)
Leaves (Err f) ts before after = after ≡ before
