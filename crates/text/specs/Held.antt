-- The triples that a `Lines` holds. Assumes nothing.
use Rattle.std.specs.Prelude.{◌≡◌, ◌<◌, List, [], ◌∷◌, ◌++◌, length, Ok, Err, Result}
use Rattle.bounded.specs.Items.{items_of}
use Rattle.fault.specs.declared.fault.Fault.{Fault}
use Rattle.fault.specs.declared.rule.Rule.TheVariants.{WholeLines}
use Rattle.fault.specs.Rules.{fault_of}
use Rattle.text.specs.declared.triple.Triple.{Triple}
use Rattle.text.specs.declared.lines.Lines.{Lines}

abbrev pub triples_of : Lines → List Triple
triples_of l = items_of l.triples

-- the triple is put last where there are fewer than 17; else it is refused with 11, and nothing changes
abbrev pub Pushed : Lines → Triple → Lines → Result Unit Fault → Type 0
Pushed l t m (Ok _) = (length (triples_of l) < 17) × (triples_of m ≡ triples_of l ++ t ∷ [])
Pushed l t m (Err f) = (length (triples_of l) ≡ 17) × (m ≡ l) × (f ≡ fault_of WholeLines 0 0)
