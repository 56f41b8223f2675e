use Rattle.std.proofs.Common.{◌≡◌, ℕ, ◌+◌, ◌++◌, ◌<◌, length, take, drop, sym, ap, ◌∙◌, arith}
use Rattle.dispatch.specs.Jobs.{jobs_of}
use Rattle.run.proofs.Listed.{turn_none, turn_count, turn_room, turn_written}
use Rattle.run.proofs.dispatcher.list.write.Goals as goal
use Rattle.run.proofs.dispatcher.list.write.Goals.{in-Some, in_default}

pub bounds-list-n : goal.bounds-list-n
bounds-list-n c =
    omega (arith, turn_room c.loop-row.row-index c.args.rows.now c.row-item.result c.loop-row-test.true c.row-item.is c.in-Some.pending c.in-Some.is, c.loop-row.invariant.0, c.requires, c.loop-row.auto.list)

pub loop-row-preserved : goal.loop-row-preserved
loop-row-preserved c =
    let i = c.loop-row.row-index in
    let rows = c.args.rows.now in
    let list = c.args.list.now in
    let lt = c.loop-row-test.true in
    let now = c.loop-row.invariant in
    let here = λ (n : ℕ). λ (is : c.match-row.n ≡ n). ap (λ m. jobs_of (take (i + 1) rows) ++ drop m list) (sym is) in
    elim c.match-row.branch [
      | in-Some w ↦
          let room : c.loop-row.n < length list = omega (arith, turn_room i rows c.row-item.result lt c.row-item.is w.in-Some.pending w.in-Some.is, now.0, c.requires) in (
            omega (arith, w.n-is, now.0, turn_count i rows c.row-item.result lt c.row-item.is w.in-Some.pending w.in-Some.is),
            w.list-is ∙ turn_written i rows c.row-item.result lt c.row-item.is w.in-Some.pending w.in-Some.is c.loop-row.n list c.loop-row.list now.0 now.1 room ∙ here _ w.n-is,
          )
      | in_default w ↦
          let same = turn_none i rows c.row-item.result lt c.row-item.is w.in_default.is in (w.n-is ∙ now.0 ∙ ap length (sym same), w.list-is ∙ now.1 ∙ ap (λ js. js ++ drop c.loop-row.n list) (sym same) ∙ here _ w.n-is)
    ]
