-- What the two orders' keys say of the jobs. Assumes nothing.
use Rattle.std.proofs.Common.{ltb, arith, ltb-false, ltb-true}
use Rattle.std.proofs.lemmas.Bool.Decides.{nat_tests}
use Rattle.soundness.proofs.Orders.{ByRow, ByDeadline}
use Rattle.order.specs.Orders.{goes_by, due_sooner}

-- fixed priority lets no job go before one of a lower row
pub lower_row_first : {O : Type 0} (o : O) → ByRow (goes_by (λ _ job. job.row) ltb o)
lower_row_first o a b = (λ e. omega (arith, ltb-true a.row b.row e), λ e. omega (arith, ltb-false a.row b.row e))

-- earliest deadline lets no job go before one that is due sooner
pub earlier_first : {O : Type 0} (o : O) → ByDeadline (goes_by (λ _ job. (job.deadline, job.row)) due_sooner o)
earlier_first o a b = (λ e. grind (arith, nat_tests), λ e. grind (arith, nat_tests))
