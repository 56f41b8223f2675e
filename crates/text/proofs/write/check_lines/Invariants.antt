-- What the loops of `check_lines` keep from turn to turn. Assumes nothing.
use Rattle.std.proofs.Common.{◌≡◌, ◌+◌, drop}
use Rattle.text.specs.Writing.{triples_checked}
use Rattle.text.proofs.write.check_lines.Given as goal

-- the triples that are left decide
abbrev pub invariant-loop-i : goal.invariant-loop-i
invariant-loop-i l = triples_checked (drop l.i l.triples) (l.i + 1) ≡ triples_checked l.triples 1
