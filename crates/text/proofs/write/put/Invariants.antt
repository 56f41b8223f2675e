-- What the loops of `put` keep from turn to turn. Assumes nothing.
use Rattle.std.proofs.Common.{◌≡◌, ◌*◌, ◌++◌, take, drop}
use Rattle.text.specs.Texts.{text_of}
use Rattle.text.proofs.write.put.Given as goal

-- the lines so far, and then what stood there
abbrev pub invariant-loop-i : goal.invariant-loop-i
invariant-loop-i l = l.out ≡ text_of (take l.i l.triples) ++ drop (25 * l.i) l.initial.out
