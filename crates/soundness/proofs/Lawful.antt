-- The laws of a supply that a run rests on, over its ghost members. Assumes nothing.
use Rattle.std.proofs.Common.{◌≡◌, ℕ, ◌+◌, ◌≤◌, Bool}
use Rattle.supply.specs.declared.grant.Grant.{Grant}
use Rattle.supply.specs.Grants.{spent}

pub record Lawful {S : Type 0} (bound floor : S → ℕ → ℕ) (step : S → Bool → (Grant × S)) : Type 0 where
  -- in no ticks nothing is promised
  pub empty : (s : S) → floor s 0 ≡ 0
  -- what is promised for any t ticks is promised for the next t
  pub covered : (s : S) (t : ℕ) → bound s t ≤ floor s t
  -- a tick leaves the bound as it is
  pub lasting : (s : S) (o : Bool) (t : ℕ) → bound (step s o).1 t ≡ bound s t
  -- a tick takes from the floor no more than it grants
  pub spending : (s : S) (o : Bool) (t : ℕ) → floor s (t + 1) ≤ floor (step s o).1 t + spent (step s o).0
