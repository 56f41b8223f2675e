-- What holds of a run's rows between any two calls. Assumes nothing.
use Rattle.std.specs.Prelude.{◌≡◌, ℕ, suc, ◌+◌, ◌<◌, ◌≤◌, List, [], ◌∷◌, Some, None, Option}
use Rattle.dispatch.specs.declared.job.Active.{Active}
use Rattle.dispatch.specs.declared.job.RowState.{RowState}

-- a pending job of row i: it has its row's number and cost, is due D ticks after its release and before the next
-- release, was released by now, is not due yet and still wants ticks
abbrev pub OrderlyJob : ℕ → ℕ → RowState → Option Active → Type 0
OrderlyJob clock i r None = Unit {0}
OrderlyJob clock i r (Some a) =
    (a.job.row ≡ i)
    × (a.job.deadline ≡ a.job.release + r.row.deadline)
    × (r.next ≡ a.job.release + r.row.period)
    × (a.job.release ≤ clock)
    × (clock < a.job.deadline)
    × (a.cost ≡ r.row.cost)
    × (a.ran < a.cost)

-- the rows are numbered from i on
abbrev pub Orderly : ℕ → ℕ → List RowState → Type 0
Orderly clock i [] = Unit {0}
Orderly clock i (r ∷ rows) = OrderlyJob clock i r r.active × Orderly clock (suc i) rows
