-- A bound that is the least number of grants, over every state that a supply can come to and all offers.
-- Assumes nothing.
use Rattle.std.specs.Prelude.{◌≡◌, ℕ, ◌≤◌, Bool, List, length}
use Rattle.supply.specs.declared.grant.Grant.{Grant}
use Rattle.supply.specs.Runs.{run, granted}

pub record LeastGrants {S : Type 0} (bound : ℕ → ℕ) (step : S → Bool → (Grant × S)) (start : S) : Type 0 where
  -- after any offers, any further offers are granted at least as many ticks as the bound says
  pub never_less : (before offers : List Bool) → bound (length offers) ≤ granted step (run step start before) offers
  -- and for every t there are offers after which t further ones are granted just so many
  pub reached : (t : ℕ) → (before : List Bool) × (offers : List Bool) × (length offers ≡ t) × (granted step (run step start before) offers ≡ bound t)
