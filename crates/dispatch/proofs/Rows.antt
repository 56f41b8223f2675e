-- No call changes the rows of the table that a run holds, nor how many there are. Assumes nothing.
use Rattle.std.proofs.Common.{◌≡◌, ℕ, ◌+◌, ◌-◌, Bool, List, [], ◌∷◌, map, length, Some, None, Option, refl, ap, ◌∙◌}
use Rattle.supply.specs.declared.grant.Grant.{Grant}
use Rattle.supply.specs.declared.grant.Grant.TheVariants as grant
use Rattle.table.specs.declared.row.Row.{Row}
use Rattle.dispatch.specs.declared.call.Call.{Call}
use Rattle.dispatch.specs.declared.call.Call.TheVariants as call
use Rattle.dispatch.specs.declared.job.Active.{Active}
use Rattle.dispatch.specs.declared.job.RowState.{RowState}
use Rattle.dispatch.specs.Jobs.{new_row, with_active, change, released, cleared}
use Rattle.dispatch.specs.Ticks.{Goes, first, worked, served, kept, struck}
use Rattle.dispatch.specs.Runs.{RunState, with_rows, release_answer, end_answer, credited, tick_answer, passed, after}
use Rattle.dispatch.proofs.Lists.{length-change, map-change, map-map}
use Rattle.dispatch.proofs.Accepted.{unless_refused_both}

abbrev pub table_rows : List RowState → List Row
table_rows rows = map (λ r. r.row) rows

pub rows_new : (rs : List Row) → table_rows (map new_row rs) ≡ rs
rows_new [] = refl
rows_new (r ∷ rs) = ap (λ ys. r ∷ ys) (rows_new rs)

pub rows_served : (g : Grant) (p : Option Active) (rows : List RowState) → table_rows (served g p rows) ≡ table_rows rows
rows_served grant.Withheld p rows = refl
rows_served grant.Granted None rows = refl
rows_served grant.Granted (Some a) rows = map-change (λ r. r.row) (with_active (worked a)) (λ r. refl) (a.job.row - 1) rows

pub rows_struck : (clock : ℕ) (rows : List RowState) → table_rows (struck clock rows) ≡ table_rows rows
rows_struck clock rows = map-map (λ r. r.row) (λ r. with_active (kept clock r.active) r) (λ r. refl) rows

pub length-served : (g : Grant) (p : Option Active) (rows : List RowState) → length (served g p rows) ≡ length rows
length-served grant.Withheld p rows = refl
length-served grant.Granted None rows = refl
length-served grant.Granted (Some a) rows = length-change (with_active (worked a)) (a.job.row - 1) rows

module _ {S : Type 0} (step : S → Bool → (Grant × S)) (goes : Goes) where
  pub rows_after : (c : Call) (st : RunState S) → table_rows (after step goes c st).rows ≡ table_rows st.rows
  rows_after (call.Release i) st =
      unless_refused_both (λ (new : RunState S). table_rows new.rows ≡ table_rows st.rows) (release_answer i st) (with_rows st (change (released i st.clock) (i - 1) st.rows)) st
      (λ x is. map-change (λ r. r.row) (released i st.clock) (λ r. refl) (i - 1) st.rows)
      refl
  rows_after (call.End i) st =
      unless_refused_both (λ (new : RunState S). table_rows new.rows ≡ table_rows st.rows) (end_answer i st) (with_rows st (change cleared (i - 1) st.rows)) st
      (λ age is. map-change (λ r. r.row) cleared (λ r. refl) (i - 1) st.rows)
      refl
  rows_after (call.Tick offer) st =
      unless_refused_both (λ (new : RunState S). table_rows new.rows ≡ table_rows st.rows) (tick_answer step goes offer st) (passed step goes offer st) st
      (λ t is. rows_struck (st.clock + 1) (credited step goes offer st) ∙ rows_served (step st.supply offer).0 (first goes st.rows) st.rows)
      refl
  rows_after call.Look st = refl
  rows_after (call.Pending room) st = refl
