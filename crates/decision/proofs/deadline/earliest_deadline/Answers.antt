use Rattle.std.proofs.Common.{ℕ, ◌+◌, ◌<◌, ◌≤◌, List, arith}
use native.Mathlib.Decide.{dec_lt}
use Rattle.table.specs.declared.row.Row.{Row}
use Rattle.table.specs.Sums.{demand}
use Rattle.table.specs.Tables.{rows_of}
use Rattle.decision.proofs.Windows.{demand_met}
use Rattle.decision.proofs.deadline.earliest_deadline.Goals as goal

pub returns-in-None : goal.returns-in-None
returns-in-None g c =
    let B : ℕ → ℕ = g.S.Supply.bound c.args.supply.now in
    let rs : List Row = rows_of c.args.table.now in
    let l : ℕ = c.in_ok-window.window in
    let w = c.in_ok-window.ensures in
    let below : (t : ℕ) → t < l → demand rs t ≤ B t = λ t lt.
    elim (dec_lt (B t) (demand rs t)) [
      | yes q ↦ absurd (c.in-None.ensures t (omega arith) (omega arith) q)
      | no q ↦ omega arith
    ] in
    (w, λ t. demand_met rs B (g.met.S.Supply.superadditive c.args.supply.now) l w.from w.holds below (t + 1) t (omega arith))
