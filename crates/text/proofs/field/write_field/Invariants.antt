-- What the loop of `write_field` keeps from turn to turn. Assumes nothing.
use Rattle.text.proofs.Digits.{Written}
use Rattle.text.proofs.field.write_field.Given as goal

abbrev pub invariant-loop-at : goal.invariant-loop-at
invariant-loop-at l = Written l.n l.rest l.at l.out
