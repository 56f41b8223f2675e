-- What `PeriodicServer::new` answers. Assumes nothing.
use Rattle.std.specs.Prelude.{◌≡◌, ℕ, Ok, Err, Result}
use Rattle.fault.specs.declared.fault.Fault.{Fault}
use Rattle.fault.specs.declared.rule.Rule.TheVariants.{Reservation}
use Rattle.fault.specs.Rules.{fault_of}
use Rattle.supply.specs.declared.server.PeriodicServer.{PeriodicServer}
use Rattle.supply.specs.Periodic.{InRange}
use Rattle.supply.specs.Server.{fresh}

-- a fresh server where they are in range, and else the refusal 21 with both
abbrev pub Reserved : ℕ → ℕ → Result PeriodicServer Fault → Type 0
Reserved q p (Ok s) = (h : InRange q p) × (s ≡ fresh q p h)
Reserved q p (Err f) = (InRange q p → ⊥) × (f ≡ fault_of Reservation q p)
