use Rattle.std.proofs.Common.{◌+◌, slice_set, unwrap_or, drop, sym, ap, ◌∙◌, arith}
use Rattle.std.proofs.lemmas.List.Edits.{map_over_more}
use Rattle.dispatch.specs.declared.job.RowState.{RowState}
use Rattle.dispatch.specs.Ticks.{lowest}
use Rattle.run.specs.Serving.{struck_row}
use Rattle.run.proofs.Struck.{strike_of, turn_some, turn_none}
use Rattle.run.proofs.serve.strike.Goals as goal
use Rattle.run.proofs.serve.strike.Goals.{in-Some, in_default}

pub loop-row-preserved : goal.loop-row-preserved
loop-row-preserved c =
    let i = c.loop-row.row-index in
    let rows = c.args.rows.now in
    let now = c.loop-row.invariant in
    let off = ap (slice_set c.loop-row.rows i) (c.strike_row.ensures.row ∙ ap (strike_of c.args.clock) (sym c.row-item.is)) ∙ map_over_more (strike_of c.args.clock) rows c.loop-row.rows i c.row-item.result c.loop-row-test.true now.rows c.row-item.is in
    let told = c.strike_row.ensures.struck ∙ ap (λ (r : RowState). struck_row c.args.clock r.active) (sym c.row-item.is) in
    elim c.match-strike_row.branch [
      | in-Some w ↦
          let turn = turn_some c.args.clock i rows c.loop-row.rows c.row-item.result c.loop-row-test.true now.rows c.row-item.is w.in-Some.number c.loop-row.lowest (sym w.in-Some.is ∙ told) in
          record {
            rows = off;
            missed = omega (arith, w.missed-is, turn.0, now.missed);
            lowest = ap (λ o. unwrap_or o (lowest c.args.clock (drop (i + 1) rows))) (w.lowest-is ∙ w.or-lowest.ensures) ∙ turn.1 _ ∙ now.lowest;
            few = omega (arith, w.missed-is, now.few);
          }
      | in_default w ↦
          let turn = turn_none c.args.clock i rows c.loop-row.rows c.row-item.result c.loop-row-test.true now.rows c.row-item.is (sym w.in_default.is ∙ told) in
          record {
            rows = off;
            missed = omega (arith, w.missed-is, turn.0, now.missed);
            lowest = ap (λ o. unwrap_or o (lowest c.args.clock (drop (i + 1) rows))) w.lowest-is ∙ ap (unwrap_or c.loop-row.lowest) (sym turn.1) ∙ now.lowest;
            few = omega (arith, w.missed-is, now.few);
          }
    ]
