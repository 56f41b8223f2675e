-- Why `read_lines` keeps what it promises. Assumes nothing.
use Rattle.std.proofs.Common.{◌≡◌, Ok, Err, sym, ap, ◌∙◌, arith}
use Rattle.std.proofs.lemmas.Result.{err_from_is_err_and}
use Rattle.std.proofs.lemmas.Bool.Decides.{nat_tests}
use Rattle.fault.specs.Steps.{map_ok}
use Rattle.text.specs.Held.{triples_of}
use Rattle.text.specs.Reading.{text_read}
use Rattle.text.proofs.Misspelt.{text_misspelt}
use Rattle.text.proofs.Refusals.{text_printable, view_printable}
use Rattle.text.proofs.Spellings.{text_read_whole, told_text}
use Rattle.text.proofs.Turns.{turn_none, turn_more, turn_fault, turn_all}
use Rattle.text.proofs.read.read_lines.Goals as goal
use Rattle.text.proofs.read.read_lines.Goals.{then-is_empty-via-then-is_empty, then-is_empty-via-else-is_empty+then-text-ne0, then-is_empty-via-else-is_empty+else-text-ne0+then-text-gt-LONGEST}

-- these are no whole lines
pub returns-then-is_empty : goal.returns-then-is_empty
unfolding text_read
returns-then-is_empty c =
    let bs = c.args.text.now in
    let value : Err c.broken_at.result ≡ text_read bs = grind (arith, nat_tests) in
    record { value = value; spells = told_text bs _ (sym value); misspelt = text_misspelt triples_of bs (Err _) value; small = view_printable triples_of (Err _) _ value (text_printable bs) }

pub loop-i-init : goal.loop-i-init
loop-i-init c = grind (arith, turn_none)

-- the fault of a line is the text's
pub returns-in_err-triple : goal.returns-in_err-triple
returns-in_err-triple c =
    let bs = c.args.text.now in
    let p = err_from_is_err_and c.from_residual.result c.from_residual.ensures.1 in
    let next = c.in-Some.ensures.steps in
    let value : map_ok triples_of c.from_residual.result ≡ text_read bs =
    ap (map_ok triples_of) (p.1 ∙ ap (λ f. Err f) p.2) ∙
    turn_fault bs _ _ _ _ _ _ next.0.1.0 (next.0.1.1 ∙ c.loop-i.invariant.0) (rw next.1 at c.in_err-triple.ensures) c.loop-i.invariant.1 ∙
    sym (text_read_whole bs (grind (arith, nat_tests)) c.if-text-ne0.false c.if-text-gt-LONGEST.false) in
    record { value = value; spells = told_text bs _ (sym value); misspelt = text_misspelt triples_of bs c.from_residual.result value; small = view_printable triples_of c.from_residual.result _ value (text_printable bs) }

pub loop-i-preserved : goal.loop-i-preserved
loop-i-preserved c =
    let next = c.in-Some.ensures.steps in (
      next.0.0 ∙ c.loop-i.invariant.0,
      rw (c.in_ok-push.ensures.1, next.2)
          (turn_more c.args.text.now _ _ _ _ _ _ next.0.1.0 (next.0.1.1 ∙ c.loop-i.invariant.0) (rw next.1 at c.in_ok-triple.ensures) c.loop-i.invariant.1),
    )

pub returns : goal.returns
returns c =
    let bs = c.args.text.now in
    let value : Ok (triples_of c.loop-i.lines) ≡ text_read bs = grind (arith, nat_tests, turn_all, text_read_whole) in
    record { value = value; spells = told_text bs _ (sym value); misspelt = tt; small = tt }
