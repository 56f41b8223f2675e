-- The text of triples: a line for each, three fields and a line feed. Assumes nothing.
use Rattle.std.specs.Prelude.{◌≡◌, ℕ, ◌≤◌, ◌⊎◌, List, [], ◌∷◌, ◌++◌, length}
use Rattle.std.specs.List.{flat_map, AllByRecursion}
use Rattle.text.specs.declared.triple.Triple.{Triple}
use Rattle.text.specs.Fields.{Fits, field_of}

-- each of the three numbers has at most eight digits
abbrev pub Fitting : Triple → Type 0
Fitting t = Fits t.first × Fits t.second × Fits t.third

-- three fields and a line feed
abbrev pub line_of : Triple → List ℕ
line_of t = field_of t.first ++ (field_of t.second ++ (field_of t.third ++ (10 ∷ [])))

-- the lines one after another
abbrev pub text_of : List Triple → List ℕ
text_of ts = flat_map line_of ts

-- the bytes are the text of the triples, and it is a text as it should be: of 1 to 17 lines, with numbers that fit
pub record Spells (ts : List Triple) (bs : List ℕ) : Type 0 where
  pub text : text_of ts ≡ bs
  pub some : 1 ≤ length ts
  pub few : length ts ≤ 17
  pub fits : AllByRecursion Fitting ts

-- the first number of all, which in a table is its order; 0 where there is none
abbrev pub order_of : List Triple → ℕ
order_of [] = 0
order_of (t ∷ ts) = t.first

-- the orders that a table can have
abbrev pub TableOrder : ℕ → Type 0
TableOrder n = (n ≡ 1) ⊎ (n ≡ 2)

-- the same, and the first number is an order
abbrev pub SpellsTable : List Triple → List ℕ → Type 0
SpellsTable ts bs = Spells ts bs × TableOrder (order_of ts)
