-- The place in a refusal is that of the first thing that is wrong. Assumes nothing.
use Rattle.std.specs.Prelude.{◌≡◌, ℕ, ◌+◌, ◌*◌, ◌/◌, ◌%◌, ◌^◌, ◌<◌, ◌≤◌, ◌⊎◌, List, [], ◌∷◌, length, take, drop, Some, None, Ok, Err, Result, ◌≢◌, slice_index}
use Rattle.std.specs.List.{AllByRecursion}
use Rattle.fault.specs.declared.fault.Fault.{Fault}
use Rattle.fault.specs.Rules.{fault_number}
use Rattle.text.specs.declared.triple.Triple.{Triple}
use Rattle.text.specs.Fields.{Fits, Reads}
use Rattle.text.specs.Texts.{Fitting, text_of}
use Rattle.text.specs.Reading.{field_bytes}

-- what the fault says of a line is so: with 12, no line feed ends it; with 13, one does, and the fault's field is its first that is no number's text
abbrev pub MisspeltLine : List ℕ → Fault → Type 0
MisspeltLine bs f =
    ((fault_number f ≡ 12) × (slice_index bs 24 ≢ 10)) ⊎
    ((fault_number f ≡ 13) × (slice_index bs 24 ≡ 10) × Reads (field_bytes bs f.place.1) None × ((j : ℕ) → 1 ≤ j → j < f.place.1 → (n : ℕ) × Reads (field_bytes bs j) (Some n)))

-- the lines before the fault's are the text of triples, and the fault's line is as it says
pub record FirstMisspelt (bs : List ℕ) (f : Fault) : Type 0 where
  pub before : List Triple
  pub fits : AllByRecursion Fitting before
  pub text : take (25 * length before) bs ≡ text_of before
  pub line : f.place.0 ≡ 1 + length before
  pub wrong : MisspeltLine (take 25 (drop (25 * length before) bs)) f

-- so it is with every refusal of a line
abbrev pub MisspeltRefusal : {X : Type 0} → List ℕ → Result X Fault → Type 0
MisspeltRefusal bs (Ok x) = Unit {0}
MisspeltRefusal bs (Err f) = (fault_number f ≡ 12) ⊎ (fault_number f ≡ 13) → FirstMisspelt bs f

-- the numbers of the triples, in the order in which they are written
abbrev pub numbers_of : List Triple → List ℕ
numbers_of [] = []
numbers_of (t ∷ ts) = t.first ∷ (t.second ∷ (t.third ∷ numbers_of ts))

-- the fault's place, counted in lines and fields from 1, is that of the first number that does not fit
pub record FirstUnfit (ts : List Triple) (f : Fault) : Type 0 where
  pub at : ℕ
  pub place : f.place ≡ (1 + at / 3, 1 + at % 3)
  pub large : 10 ^ 8 ≤ slice_index (numbers_of ts) at
  pub before : AllByRecursion Fits (take at (numbers_of ts))

-- a refusal with the number 13 is for that number
abbrev pub UnfitRefusal : List Triple → Result ℕ Fault → Type 0
UnfitRefusal ts (Ok n) = Unit {0}
UnfitRefusal ts (Err f) = fault_number f ≡ 13 → FirstUnfit ts f
