-- What a supply's laws give of whole lists of offers. Assumes nothing.
use Rattle.std.specs.Prelude.{◌≡◌, ℕ, suc, ◌+◌, ◌≤◌, Bool, List, [], ◌∷◌, length}
use Rattle.std.proofs.Common.{add-one, arith}
use Rattle.supply.specs.declared.grant.Grant.{Grant}
use Rattle.supply.specs.Grants.{spent}
use Rattle.supply.specs.Runs.{granted}

module _ {S : Type 0} (floor : S → ℕ → ℕ) (step : S → Bool → (Grant × S)) (empty : (s : S) → floor s 0 ≡ 0)
    (spending : (s : S) (o : Bool) (t : ℕ) → floor s (t + 1) ≤ floor (step s o).1 t + spent (step s o).0) where
  -- what the floor says is granted, whatever is offered
  pub granted_floor : (os : List Bool) (s : S) → floor s (length os) ≤ granted step s os
  granted_floor [] s = omega (arith, empty s)
  granted_floor (o ∷ os) s =
      let h = granted_floor os (step s o).1 in
      let k : floor s (suc (length os)) ≤ floor (step s o).1 (length os) + spent (step s o).0 = rw add-one at (spending s o (length os)) in
      omega arith
