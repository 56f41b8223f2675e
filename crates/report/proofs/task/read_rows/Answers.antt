use Rattle.std.proofs.Common.{ℕ, ◌+◌, ap, ◌∙◌, ⊎_elim, arith}
use Rattle.std.proofs.lemmas.List.{take_all}
use Rattle.std.proofs.lemmas.Result.{err_from_is_err_and}
use Rattle.fault.specs.declared.fault.Fault.{Fault}
use Rattle.fault.specs.declared.rule.Rule.TheVariants as rule
use Rattle.fault.specs.Rules.{fault_of}
use Rattle.table.specs.Tables.{rows_of}
use Rattle.report.specs.Tasks.{FirstBroken}
use Rattle.report.proofs.Rows.{front_count, rows_more, rows_sound}
use Rattle.report.proofs.task.read_rows.Goals as goal

pub returns-in_err-add : goal.returns-in_err-add
returns-in_err-add c =
    let ts = c.args.rows.now in
    let i : ℕ = c.loop-row.row-index in
    let n = front_count (rows_of c.loop-row.table) ts i c.loop-row.invariant.1 c.loop-row.invariant.0 in
    let p = err_from_is_err_and c.from_residual.result c.from_residual.ensures.1 in
    let broken : FirstBroken ts c.in_err-add.field-0.0 =
    ⊎_elim
    (λ full. absurd (omega (arith, full.0, n, c.loop-row-test.true, c.requires)))
    (λ broken. (
      i,
      c.loop-row-test.true,
      rows_sound (rows_of c.loop-row.table) ts i c.loop-row.invariant.1 c.loop-row.invariant.0,
      broken.1,
      broken.2 ∙ ap {B = Fault} (λ m. fault_of rule.RowBounds (m + 1) 0) n,
    ))
    c.in_err-add.ensures.1 in
    rw (p.1, p.2) broken

pub loop-row-preserved : goal.loop-row-preserved
loop-row-preserved c =
    let ts = c.args.rows.now in
    let added = c.in_ok-add.ensures in
    (omega arith, rows_more (rows_of c.loop-row.table) ts c.loop-row.row-index c.loop-row.invariant.1 c.loop-row-test.true added.1.0 added.1.1 (rows_of c.add.new.self) added.1.2)

pub returns : goal.returns
returns c = c.loop-row.invariant.1 ∙ take_all c.loop-row.row-index c.args.rows.now c.loop-row-test.false
