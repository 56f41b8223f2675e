use Rattle.std.proofs.Common.{◌≡◌, ℕ, Ok, Err, Result, sym, refl, ap, ◌∙◌, subst, inl}
use Rattle.std.specs.Result.{result_or}
use Rattle.fault.specs.declared.fault.Fault.{Fault}
use Rattle.fault.specs.declared.rule.Rule.TheVariants.{RoomForRow}
use Rattle.fault.specs.Rules.{fault_of}
use Rattle.bounded.specs.declared.bounded.Bounded.{Bounded}
use Rattle.bounded.specs.declared.bounded.Full.{Full}
use Rattle.bounded.specs.Items.{Pushed}
use Rattle.table.specs.declared.row.Row.{Row}
use Rattle.table.specs.declared.table.Table.{Table}
use Rattle.table.specs.Rows.{RowIs}
use Rattle.table.specs.Tables.{Added}
use Rattle.table.proofs.table.Table.add.Goals as goal

pushed : (cost period deadline : ℕ) (t : Table) (rows : Bounded Row 16) (row : Row) (p : Result Unit Full) (r : Result Unit Fault) → RowIs cost period deadline row → Pushed t.rows row rows p
    → r ≡ result_or p (Err (fault_of RoomForRow 16 0)) → Added cost period deadline t (record t { rows = rows }) r
pushed cost period deadline t rows row (Ok _) r is put told = subst (Added cost period deadline t (record t { rows = rows })) (sym told) (put.0, (row, is, put.1))
pushed cost period deadline t rows row (Err _) r is put told =
    subst (Added cost period deadline t (record t { rows = rows })) (sym told) (ap (λ (b : Bounded Row 16). record t { rows = b }) put.1, inl (put.0, refl))

pub returns : goal.returns
returns c =
    let is : RowIs c.args.cost c.args.period c.args.deadline c.in_ok-row.row = rw c.in_ok-row.ensures.ok_part at c.new.ensures in
    pushed _ _ _ c.args.self.now c.push.new.self c.in_ok-row.row c.push.result c.or.result is c.push.ensures
    (c.or.ensures ∙ ap (λ (f : Fault). result_or c.push.result (Err f)) c.broken_at-full.ensures)
