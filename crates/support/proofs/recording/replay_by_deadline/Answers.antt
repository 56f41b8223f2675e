use Rattle.std.proofs.Common.{ap, ◌∙◌}
use Rattle.table.specs.Tables.{rows_of}
use Rattle.supply.specs.Server.{server_step}
use Rattle.dispatch.specs.Runs.{fresh, replies}
use Rattle.support.specs.Recordings.{by_deadline}
use Rattle.support.proofs.recording.replay_by_deadline.Goals as goal

pub returns : goal.returns
returns c =
    let rs = rows_of c.args.table.now in
    let reserved = c.in_ok-server.ensures.fresh in
    let told = c.in_ok-replay.ensures in (
      reserved.0,
      told.replies ∙ ap (λ s. replies server_step by_deadline c.args.calls.now (fresh rs s)) reserved.1,
      told.accepted_table_misses_no_job c.in_ok-test.field-0 c.in_ok-test.ensures,
    )
