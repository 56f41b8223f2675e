-- What a tick's answer costs. Assumes nothing.
use Rattle.std.specs.Prelude.{ℕ, Bool, true, false}
use Rattle.supply.specs.declared.grant.Grant.{Grant}
use Rattle.supply.specs.declared.grant.Grant.TheVariants.{Withheld, Granted}

abbrev pub grant : Bool → Grant
grant true = Granted
grant false = Withheld

-- how much of the floor a tick's answer takes
abbrev pub spent : Grant → ℕ
spent Withheld = 0
spent Granted = 1
