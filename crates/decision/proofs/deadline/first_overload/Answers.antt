use Rattle.std.proofs.Common.{ℕ, ◌+◌, ◌<◌, ◌≤◌, List, subst, arith}
use Rattle.table.specs.declared.row.Row.{Row}
use Rattle.table.specs.Sums.{demand}
use Rattle.table.specs.Tables.{rows_of}
use Rattle.decision.specs.Least.{Found}
use Rattle.decision.proofs.Widen.{found_same}
use Rattle.decision.proofs.deadline.first_overload.Goals as goal

pub returns : goal.returns
unfolding demand
returns g c =
    let B : ℕ → ℕ = g.S.Supply.bound c.args.supply.now in
    let rs : List Row = rows_of c.args.table.now in
    let found = subst (λ rs'. Found (λ t. B t + 1 ≤ demand rs' t) 0 c.args.last c.met.result) c.rows.ensures.rows c.met.ensures in
    found_same (λ t. B t + 1 ≤ demand rs t) (λ t. B t < demand rs t) (λ t h. omega arith) (λ t h. omega arith) 0 c.args.last c.met.result found
