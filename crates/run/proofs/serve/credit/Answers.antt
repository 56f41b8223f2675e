use Rattle.run.proofs.Served.{ran_rows, ended_rows}
use Rattle.run.proofs.serve.credit.Goals as goal

pub returns-in-Granted-Some-clause-rows : goal.returns-in-Granted-Some-clause-rows
returns-in-Granted-Some-clause-rows c =
    let a = c.in-Granted-Some in
    let x = c.index-rows-row in
    ran_rows c.args.rows.now c.args.clock a.active c.args.grant c.args.chosen a.is-0 a.is-1 c.requires c.if-active.true x.result x.is

pub returns-in-Granted-Some-2-clause-rows : goal.returns-in-Granted-Some-2-clause-rows
returns-in-Granted-Some-2-clause-rows c =
    let a = c.in-Granted-Some in
    let x = c.index-rows-row-in-Granted-Some-2 in
    ended_rows c.args.rows.now c.args.clock a.active c.args.grant c.args.chosen a.is-0 a.is-1 c.requires c.if-active.false x.result x.is
