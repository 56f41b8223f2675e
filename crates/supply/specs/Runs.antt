-- What a supply does over a list of offers, by its step. Assumes nothing.
use Rattle.std.specs.Prelude.{ℕ, ◌+◌, Bool, List, [], ◌∷◌}
use Rattle.supply.specs.declared.grant.Grant.{Grant}
use Rattle.supply.specs.Grants.{spent}

-- the state after the offers
abbrev pub run : {S : Type 0} → (S → Bool → (Grant × S)) → S → List Bool → S
run step s [] = s
run step s (o ∷ os) = run step (step s o).1 os

-- how many ticks were granted
abbrev pub granted : {S : Type 0} → (S → Bool → (Grant × S)) → S → List Bool → ℕ
granted step s [] = 0
granted step s (o ∷ os) = spent (step s o).0 + granted step (step s o).1 os
