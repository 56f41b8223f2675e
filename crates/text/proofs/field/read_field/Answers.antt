-- Why `read_field` keeps what it promises. Assumes nothing.
use Rattle.std.proofs.Common.{◌≡◌, ◌-◌, ◌<◌, length, get_or, take, drop, None, arith}
use Rattle.std.proofs.lemmas.List.{take_rest}
use Rattle.std.proofs.lemmas.Bool.Decides.{nat_tests}
use Rattle.text.specs.Fields.{Reads}
use Rattle.text.proofs.Fields.{decided, none_blank, none_zero, told_field}
use Rattle.text.proofs.field.read_field.Goals as goal

-- all spaces
pub returns-then-is_empty : goal.returns-then-is_empty
returns-then-is_empty c =
    let bs = c.args.text.now in
    let s = c.blanks.result in
    let empty : length (take (length bs - s) (drop s bs)) < 1 = grind (arith, nat_tests) in
    let none : Reads bs None = none_blank bs s c.requires c.blanks.ensures.blank c.blanks.ensures.within (simp take_rest at empty) in
    record { value = told_field bs None none; reads = none }

-- a zero in front
pub returns-then-digits-gt1 : goal.returns-then-digits-gt1
returns-then-digits-gt1 c =
    let bs = c.args.text.now in
    let none : Reads bs None =
    none_zero bs c.blanks.result c.requires c.blanks.ensures.blank (simp take_rest at c.if-digits-gt1.true) (simp take_rest at c.if-digits-eq48.true) in
    record { value = told_field bs None none; reads = none }

pub returns : goal.returns
returns c =
    let bs = c.args.text.now in
    let s = c.blanks.result in
    let some : 0 < length (take (length bs - s) (drop s bs)) = grind (arith, nat_tests) in
    let alone : get_or (take (length bs - s) (drop s bs)) 0 0 ≡ 48 → length (take (length bs - s) (drop s bs)) < 2 = λ e. omega arith in
    let reads : Reads bs c.number.result =
    decided bs s c.number.result c.requires c.blanks.ensures.blank c.blanks.ensures.stops (simp take_rest at some) (simp take_rest at alone) (simp take_rest at c.number.ensures) in
    record { value = told_field bs c.number.result reads; reads = reads }
