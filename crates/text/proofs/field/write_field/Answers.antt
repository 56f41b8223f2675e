-- Why `write_field` keeps what it promises. Assumes nothing.
use Rattle.std.proofs.Common.{◌∙◌, arith}
use Rattle.text.proofs.Digits.{written_all, written_more, written_none}
use Rattle.text.proofs.field.write_field.Goals as goal

pub loop-at-init : goal.loop-at-init
loop-at-init c = grind (arith, written_none)

pub loop-at-preserved : goal.loop-at-preserved
loop-at-preserved c =
    let eight = c.loop-at.auto.out ∙ c.fill.ensures.len ∙ c.requires.0 in
    written_more c.args.n c.loop-at.rest c.loop-at.at c.loop-at.out eight (omega arith) (omega arith) c.loop-at.invariant

pub returns-then-rest-eq0 : goal.returns-then-rest-eq0
returns-then-rest-eq0 c = grind (arith, written_all)
