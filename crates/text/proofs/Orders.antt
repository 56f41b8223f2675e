-- The test of the order asks for just an order. Assumes nothing.
use Rattle.std.proofs.Common.{◌≡◌, List, Ok, arith}
use Rattle.std.proofs.lemmas.Bool.Decides.{nat_tests}
use Rattle.text.specs.declared.triple.Triple.{Triple}
use Rattle.text.specs.Texts.{TableOrder, order_of}
use Rattle.text.specs.Reading.{order_checked}

pub order_passes : (ts : List Triple) → TableOrder (order_of ts) → order_checked ts ≡ Ok tt
order_passes ts order = grind (arith, nat_tests)

pub order_passed : (ts : List Triple) → order_checked ts ≡ Ok tt → TableOrder (order_of ts)
order_passed ts h = grind (arith, nat_tests)
