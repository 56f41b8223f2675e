use Rattle.std.proofs.Common.{sym, subst, arith}
use Rattle.table.specs.Tables.{rows_of}
use Rattle.dispatch.specs.Orderly.{Orderly}
use Rattle.dispatch.proofs.Keeping.{orderly_fresh}
use Rattle.run.proofs.dispatcher.Dispatcher.new.Goals as goal

pub invariant_of-result : goal.invariant_of-result
invariant_of-result c = record {
  early = omega arith;
  orderly = ∣ subst (Orderly 0 1) (sym c.never_released.ensures) (orderly_fresh (rows_of c.args.table.now)) ∣₁;
  fewer = omega arith;
}
