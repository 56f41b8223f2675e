use Rattle.std.proofs.Common.{ℕ, List, [], ◌∷◌, length, length-append, get_or, Ok, Err, ap, ◌∙◌, arith}
use Rattle.std.specs.Option.{ok_or}
use Rattle.std.proofs.lemmas.Result.{err_from_is_err_and}
use Rattle.table.specs.declared.row.Row.{Row}
use Rattle.table.specs.Sums.{requested}
use Rattle.table.specs.Tables.{rows_of}
use Rattle.decision.specs.Responses.{responses_of}
use Rattle.decision.proofs.Responding.{responds, responses_more}
use Rattle.decision.proofs.priority.fixed_priority.Goals as goal

pub returns-in_err-response : goal.returns-in_err-response
unfolding requested
returns-in_err-response g c =
    let rs : List Row = rows_of c.args.table.now in
    let rows = c.rows-rows.result.now in
    let i : ℕ = c.loop-i.i in
    let none =
    responds rs rows (g.S.Supply.bound c.args.supply.now) i c.index-rows-i.result c.met.result (Err c.in_err-response.field-0.0) c.rows-rows.ensures.rows c.index-rows-i.is c.loop-i-test.true c.met.ensures
    (c.in_err-response.ensures.value ∙ ap (ok_or c.met.result) c.broken_at-miss.ensures) in
    let p = err_from_is_err_and c.from_residual.result c.from_residual.ensures.1 in
    rw (p.1, p.2) (i, omega (arith, c.loop-i-test.true, ap length c.rows-rows.ensures.rows), (λ j lt. (get_or (responses_of c.loop-i.responses) j 0, c.loop-i.invariant.1 j lt)), none.0, none.1)

pub loop-i-preserved : goal.loop-i-preserved
unfolding requested
loop-i-preserved g c =
    let rs : List Row = rows_of c.args.table.now in
    let rows = c.rows-rows.result.now in
    let B : ℕ → ℕ = g.S.Supply.bound c.args.supply.now in
    let i : ℕ = c.loop-i.i in
    let one =
    responds rs rows B i c.index-rows-i.result c.met.result (Ok c.in_ok-response.response) c.rows-rows.ensures.rows c.index-rows-i.is c.loop-i-test.true c.met.ensures
    (c.in_ok-response.ensures.value ∙ ap (ok_or c.met.result) c.broken_at-miss.ensures) in
    let n = c.loop-i.invariant.0 in
    (omega (arith, n, ap length c.push.ensures, length-append (responses_of c.loop-i.responses) (c.in_ok-response.response ∷ [])), rw c.push.ensures (responses_more rs B (responses_of c.loop-i.responses) i c.in_ok-response.response n c.loop-i.invariant.1 one))
