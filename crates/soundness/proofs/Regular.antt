-- What every run keeps whatever its order: orderly rows, the rows of its table and the bound of its supply. Assumes
-- nothing.
use Rattle.std.proofs.Common.{◌≡◌, ℕ, ◌+◌, ◌-◌, ◌<◌, ◌≤◌, Bool, List, length, Some, Ok, sym, refl, ap, ◌∙◌, subst, arith}
use Rattle.std.proofs.lemmas.List.{get_or-map, length-map}
use Rattle.supply.specs.declared.grant.Grant.{Grant}
use Rattle.supply.specs.Grants.{spent}
use Rattle.table.specs.declared.row.Row.{Row}
use Rattle.table.specs.Sums.{row_at, no_row}
use Rattle.dispatch.specs.declared.call.Call.{Call}
use Rattle.dispatch.specs.declared.call.Call.TheVariants as call
use Rattle.dispatch.specs.declared.job.Active.{Active}
use Rattle.dispatch.specs.declared.job.RowState.{RowState}
use Rattle.dispatch.specs.Jobs.{no_state, state_at, change, released, cleared}
use Rattle.dispatch.specs.Ticks.{Goes, first}
use Rattle.dispatch.specs.Runs.{RunState, fresh, with_rows, release_answer, end_answer, tick_answer, passed, after}
use Rattle.dispatch.specs.Orderly.{Orderly, OrderlyJob}
use Rattle.dispatch.proofs.Lists.{At, at_from}
use Rattle.dispatch.proofs.Chosen.{chosen_row}
use Rattle.dispatch.proofs.Accepted.{unless_refused_both, release_accepted}
use Rattle.dispatch.proofs.Keeping.{orderly_at, orderly_fresh, orderly_after}
use Rattle.dispatch.proofs.Rows.{table_rows, rows_new, rows_after}
use Rattle.soundness.proofs.Lawful.{Lawful}

-- for a run of the table rs over a supply that promises B
pub record Regular {S : Type 0} (bound : S → ℕ → ℕ) (rs : List Row) (B : ℕ → ℕ) (st : RunState S) : Type 0 where
  pub orderly : Orderly st.clock 1 st.rows
  pub table : table_rows st.rows ≡ rs
  pub promised : (t : ℕ) → bound st.supply t ≡ B t

pub rows_length : (rows : List RowState) (rs : List Row) → table_rows rows ≡ rs → length rows ≡ length rs
rows_length rows rs same = sym (length-map rows (λ (r : RowState). r.row)) ∙ ap length same

-- the row of the table at a place
pub row_is : (rows : List RowState) (rs : List Row) → table_rows rows ≡ rs → (k : ℕ) → k < length rows → row_at rs k ≡ (state_at rows k).row
row_is rows rs same k lt = ap (λ rs. row_at rs k) (sym same) ∙ get_or-map (λ (r : RowState). r.row) rows k no_state no_row lt

-- the row of an accepted release is due
pub due_at : {S : Type 0} (i : ℕ) (st : RunState S) (x : Unit {0}) → release_answer i st ≡ Ok x → At (λ r. r.next ≤ st.clock) (i - 1) st.rows
due_at i st x is =
    let accepted = release_accepted i st x is in
    at_from (λ r. r.next ≤ st.clock) no_state (i - 1) st.rows (omega (arith, accepted.0, accepted.1)) accepted.2

-- the chosen job is a pending job of its row
pub chosen_orderly : (goes : Goes) (clock : ℕ) (rows : List RowState) (a : Active) → Orderly clock 1 rows → first goes rows ≡ Some a
    → OrderlyJob clock (a.job.row - 1 + 1) (state_at rows (a.job.row - 1)) (Some a)
chosen_orderly goes clock rows a orderly is =
    let row = chosen_row goes clock rows a orderly is in
    let k : ℕ = a.job.row - 1 in
    subst (OrderlyJob clock (k + 1) (state_at rows k)) row.1 (orderly_at clock rows orderly k row.0)

module _ {S : Type 0} (bound floor : S → ℕ → ℕ) (step : S → Bool → (Grant × S)) (laws : Lawful bound floor step) (goes : Goes) where
  -- what is promised before e is still promised after a tick, but for what the tick granted
  pub spends : (s : S) (offer : Bool) (c e : ℕ) → c < e → floor s (e - c) ≤ floor (step s offer).1 (e - (c + 1)) + spent (step s offer).0
  spends s offer c e lt =
      let same : e - (c + 1) + 1 ≡ e - c = omega arith in
      subst (λ t. floor s t ≤ floor (step s offer).1 (e - (c + 1)) + spent (step s offer).0) same (laws.spending s offer (e - (c + 1)))

  lasts : (c : Call) (st : RunState S) (t : ℕ) → bound (after step goes c st).supply t ≡ bound st.supply t
  lasts (call.Release i) st t =
      unless_refused_both (λ (new : RunState S). bound new.supply t ≡ bound st.supply t) (release_answer i st) (with_rows st (change (released i st.clock) (i - 1) st.rows)) st
      (λ x is. refl)
      refl
  lasts (call.End i) st t =
      unless_refused_both (λ (new : RunState S). bound new.supply t ≡ bound st.supply t) (end_answer i st) (with_rows st (change cleared (i - 1) st.rows)) st
      (λ age is. refl)
      refl
  lasts (call.Tick offer) st t =
      unless_refused_both (λ (new : RunState S). bound new.supply t ≡ bound st.supply t) (tick_answer step goes offer st) (passed step goes offer st) st
      (λ x is. laws.lasting st.supply offer t)
      refl
  lasts call.Look st t = refl
  lasts (call.Pending room) st t = refl

  pub regular_after : (rs : List Row) (B : ℕ → ℕ) (c : Call) (st : RunState S) → Regular bound rs B st → Regular bound rs B (after step goes c st)
  regular_after rs B c st regular = record {
    orderly = orderly_after step goes c st regular.orderly;
    table = rows_after step goes c st ∙ regular.table;
    promised = λ t. lasts c st t ∙ regular.promised t;
  }

pub regular_fresh : {S : Type 0} (bound : S → ℕ → ℕ) (rs : List Row) (s : S) → Regular bound rs (bound s) (fresh rs s)
regular_fresh bound rs s = record { orderly = orderly_fresh rs; table = rows_new rs; promised = λ t. refl }
