-- What the loops of `number` keep from turn to turn. Assumes nothing.
use Rattle.std.proofs.Common.{◌≡◌, ◌^◌, ◌<◌, drop}
use Rattle.std.specs.Str.{all_ascii_digits}
use Rattle.text.specs.Fields.{value_after}
use Rattle.text.proofs.field.number.Given as goal

-- what is left decides, and goes on from the number so far
abbrev pub invariant-loop-b : goal.invariant-loop-b
invariant-loop-b l =
    (l.n < 10 ^ l.b-index) ×
    (all_ascii_digits (drop l.b-index l.digits) ≡ all_ascii_digits l.digits) ×
    (value_after l.n (drop l.b-index l.digits) ≡ value_after 0 l.digits)
