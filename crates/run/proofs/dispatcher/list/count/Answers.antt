use Rattle.std.proofs.Common.{List, length, ap, ◌∙◌}
use Rattle.std.specs.List.{filter}
use Rattle.std.specs.Option.{is_some}
use Rattle.std.proofs.lemmas.List.{take_all}
use Rattle.dispatch.specs.declared.job.RowState.{RowState}
use Rattle.run.proofs.Listed.{jobs_counted}
use Rattle.run.proofs.dispatcher.list.count.Goals as goal

pub returns : goal.returns
returns c =
    c.loop-row.invariant.0
    ∙ ap (λ (rows : List RowState). length (filter (λ r. is_some r.active) rows)) (take_all c.loop-row.row-index c.args.rows.now c.loop-row-test.false)
    ∙ jobs_counted c.args.rows.now
