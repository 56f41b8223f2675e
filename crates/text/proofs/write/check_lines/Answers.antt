-- Why `check_lines` keeps what it promises. Assumes nothing.
use Rattle.std.proofs.Common.{arith}
use Rattle.std.proofs.lemmas.Bool.Decides.{nat_tests}
use Rattle.std.proofs.lemmas.Grind.{common_steps}
use Rattle.text.specs.Writing.{lines_checked}
use Rattle.text.proofs.Checks.{checked_numbers}
use Rattle.text.proofs.write.check_lines.Goals as goal

pub returns-then-room-lt-LONGEST : goal.returns-then-room-lt-LONGEST
unfolding lines_checked
returns-then-room-lt-LONGEST c = grind (arith, nat_tests)

pub returns-then-is_empty : goal.returns-then-is_empty
unfolding lines_checked
returns-then-is_empty c = grind (arith, nat_tests)

-- the fault of a triple is that of all
pub returns-in_err-check_triple : goal.returns-in_err-check_triple
returns-in_err-check_triple c = grind (arith, nat_tests, common_steps, checked_numbers)

pub returns : goal.returns
returns c = grind (arith, nat_tests, common_steps, checked_numbers)
