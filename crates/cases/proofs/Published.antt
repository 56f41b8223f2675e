-- The worked cases. Assumes nothing.
use Rattle.std.proofs.Common.{ℕ, zero, suc, ◌+◌, ◌-◌, ◌<◌, ◌≤◌, List, [], ◌∷◌, refl, inl, arith}
use Rattle.arith.specs.Quotients.{ceiling}
use Rattle.arith.proofs.Quotients.{ceiling_covers}
use Rattle.supply.specs.Periodic.{InRange, periodic_bound}
use Rattle.supply.specs.Server.{fresh}
use Rattle.supply.specs.Closed.{bound_closed, from_start_at, from_start_size}
use Rattle.supply.specs.PeriodicLemmas.{server_superadditive}
use Rattle.table.specs.declared.row.Row.{Row}
use Rattle.table.specs.Rows.{releases_in, deadlines_by}
use Rattle.table.specs.Sums.{requested, workload, demand}
use Rattle.decision.specs.Decisions.{Window, Response}
use Rattle.cases.specs.Published.{ServerBounds, TwoRows, two_rows, ThreeRows, three_rows, ShortDeadline, short_deadline, SmallBudget, FullProcessor, OverFull, NoRows, half_row, row}
use Rattle.cases.proofs.Walks.{short_until, met_below, none_by_walk, least_by_walk, met_by_window}

pub server_bounds : ServerBounds
unfolding periodic_bound ceiling
server_bounds = (refl, refl, refl, refl, refl, refl)

superadditive : (q p : ℕ) → InRange q p → (a b : ℕ) → periodic_bound q p a + periodic_bound q p b ≤ periodic_bound q p (a + b)
superadditive q p h = server_superadditive (fresh q p h)

two_window : Window two_rows (periodic_bound 2 4) 14
unfolding periodic_bound ceiling requested releases_in short_until
two_window = least_by_walk (requested two_rows) (periodic_bound 2 4) 13 1000000 refl refl (omega arith)

pub two_rows_hold : TwoRows
unfolding periodic_bound ceiling workload requested demand releases_in deadlines_by short_until met_below
two_rows_hold = (
  (refl, responses),
  (two_window, met_by_window two_rows (periodic_bound 2 4) (superadditive 2 4 (omega arith, omega arith, omega arith)) 14 two_window refl),
)
  where
    responses : (i : ℕ) → i < 2 → Response two_rows (periodic_bound 2 4) i (lib.ListN.get_or (6 ∷ 14 ∷ []) i 0)
    responses zero lt = least_by_walk (workload two_rows 0) (periodic_bound 2 4) 5 7 refl refl (omega arith)
    responses (suc zero) lt = least_by_walk (workload two_rows 1) (periodic_bound 2 4) 13 15 refl refl (omega arith)
    responses (suc (suc i)) lt = absurd (omega arith)

pub three_rows_hold : ThreeRows
unfolding periodic_bound ceiling workload requested releases_in short_until
three_rows_hold = (refl, responses)
  where
    responses : (i : ℕ) → i < 3 → Response three_rows (periodic_bound 1 1) i (lib.ListN.get_or (10 ∷ 20 ∷ 52 ∷ []) i 0)
    responses zero lt = least_by_walk (workload three_rows 0) (periodic_bound 1 1) 9 30 refl refl (omega arith)
    responses (suc zero) lt = least_by_walk (workload three_rows 1) (periodic_bound 1 1) 19 40 refl refl (omega arith)
    responses (suc (suc zero)) lt = least_by_walk (workload three_rows 2) (periodic_bound 1 1) 51 52 refl refl (omega arith)
    responses (suc (suc (suc i))) lt = absurd (omega arith)

pub short_deadline_holds : ShortDeadline
unfolding periodic_bound ceiling workload requested releases_in short_until
short_deadline_holds = (2, omega arith, responses, none_by_walk (workload short_deadline 2) (periodic_bound 1 1) 51 refl, refl)
  where
    responses : (j : ℕ) → j < 2 → (r : ℕ) × Response short_deadline (periodic_bound 1 1) j r
    responses zero lt = (10, least_by_walk (workload short_deadline 0) (periodic_bound 1 1) 9 30 refl refl (omega arith))
    responses (suc zero) lt = (20, least_by_walk (workload short_deadline 1) (periodic_bound 1 1) 19 40 refl refl (omega arith))
    responses (suc (suc j)) lt = absurd (omega arith)

pub small_budget_holds : SmallBudget
unfolding periodic_bound ceiling workload requested releases_in short_until
small_budget_holds = (0, omega arith, (λ j lt. absurd (omega arith)), none_by_walk (workload one_row 0) (periodic_bound 1 4) 7 refl, refl)
  where
    one_row : List Row
    one_row = row 2 7 7 (omega arith, omega arith, omega arith, omega arith) ∷ []

half_rows_window : Window (half_row ∷ half_row ∷ []) (periodic_bound 1 1) 2
unfolding periodic_bound ceiling requested releases_in short_until
half_rows_window = least_by_walk (requested (half_row ∷ half_row ∷ [])) (periodic_bound 1 1) 1 1000000 refl refl (omega arith)

pub full_processor_holds : FullProcessor
unfolding periodic_bound ceiling requested demand releases_in deadlines_by met_below
full_processor_holds = (half_rows_window, met_by_window (half_row ∷ half_row ∷ []) (periodic_bound 1 1) (superadditive 1 1 (omega arith, omega arith, omega arith)) 2 half_rows_window refl)

-- in t ticks at least t are requested
half_rows_ask : (t : ℕ) → t ≤ requested (half_row ∷ half_row ∷ []) t
unfolding requested releases_in
half_rows_ask t = omega (arith, ceiling_covers 2 (omega arith) t)

-- and fewer are promised
bound_below : (t : ℕ) → 1 ≤ t → periodic_bound 3 4 t < t
bound_below t some =
    omega (arith, bound_closed 3 4 (omega arith) (omega arith) t, from_start_at 3 4 (omega arith) (omega arith) (t - 1), from_start_size 3 4 (omega arith) (t - 1))

pub over_full_holds : OverFull
over_full_holds = inl ((λ k low high h. omega (arith, half_rows_ask k, bound_below k low)), refl)

pub no_rows_hold : NoRows
unfolding requested demand
no_rows_hold B = (
  (refl, λ i lt. absurd (omega arith)),
  (record { from = omega arith; to = omega arith; holds = omega arith; before = λ k low lt h. omega arith }, λ t. omega arith),
)
