use Rattle.std.proofs.Common.{ℕ, ◌+◌, ◌≤◌, List, Some, None, Option, sym, refl, ap, ◌∙◌, subst, arith}
use Rattle.std.specs.Option.{ok_or}
use Rattle.table.specs.declared.row.Row.{Row}
use Rattle.table.specs.Sums.{requested}
use Rattle.table.specs.Tables.{rows_of}
use Rattle.decision.specs.Least.{Found}
use Rattle.decision.specs.Decisions.{Windowed, open_fault}
use Rattle.decision.proofs.Widen.{found_same}
use Rattle.decision.proofs.window.busy_window.Goals as goal

windowed : (rs : List Row) (B : ℕ → ℕ) (o : Option ℕ) → Found (λ t. requested rs t ≤ B t) 1 1000000 o → Windowed rs B (ok_or o open_fault)
windowed rs B (Some l) found = found
windowed rs B None none = (none, refl)

pub returns : goal.returns
unfolding requested
returns g c =
    let B : ℕ → ℕ = g.S.Supply.bound c.args.supply.now in
    let rs : List Row = rows_of c.args.table.now in
    let met = subst (λ rs'. Found (λ t. requested rs' t ≤ B t + 0) 1 1000000 c.met.result) c.rows.ensures.rows c.met.ensures in
    let found = found_same (λ t. requested rs t ≤ B t + 0) (λ t. requested rs t ≤ B t) (λ t h. omega arith) (λ t h. omega arith) 1 1000000 c.met.result met in
    subst (Windowed rs B) (sym (c.ok_or.ensures.value ∙ ap (ok_or c.met.result) c.broken_at-open.ensures)) (windowed rs B c.met.result found)
