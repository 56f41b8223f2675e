-- By fixed priority no job is missed and none ends older than its row's response: in every state each row has room for
-- a job yet to come, and its pending job ends in time. Assumes nothing.
use Rattle.std.proofs.Common.{◌≡◌, ℕ, zero, suc, ◌+◌, ◌-◌, ◌<◌, ◌≤◌, Bool, List, [], ◌∷◌, map, length, get_or, take, None, Ok, sym, refl, ap, ◌∙◌, subst, ⊎_elim, arith}
use Rattle.std.specs.List.{AllByRecursion}
use Rattle.supply.specs.declared.grant.Grant.{Grant}
use Rattle.table.specs.declared.row.Row.{Row}
use Rattle.table.specs.Sums.{requested, row_at}
use Rattle.decision.specs.Decisions.{Response, Prioritised}
use Rattle.dispatch.specs.declared.call.Call.{Call}
use Rattle.dispatch.specs.declared.call.Call.TheVariants as call
use Rattle.dispatch.specs.declared.job.RowState.{RowState}
use Rattle.dispatch.specs.Jobs.{new_row, no_state, state_at, change, released, cleared}
use Rattle.dispatch.specs.Ticks.{Goes, first, struck, late}
use Rattle.dispatch.specs.Runs.{RunState, fresh, with_rows, release_answer, end_answer, credited, tick_answer, passed, after}
use Rattle.dispatch.specs.Promises.{KeepsTime}
use Rattle.dispatch.proofs.Chosen.{Free}
use Rattle.dispatch.proofs.Accepted.{unless_refused_both}
use Rattle.dispatch.proofs.Rows.{length-served, rows_new}
use Rattle.soundness.proofs.Lawful.{Lawful}
use Rattle.soundness.proofs.Sums.{sum_by_zero}
use Rattle.soundness.proofs.Orders.{ByRow}
use Rattle.soundness.proofs.Regular.{Regular, rows_length, row_is, due_at, spends, regular_after, regular_fresh}
use Rattle.soundness.proofs.Timing.{Young, Unmissed, in_time, keeps_time}
use Rattle.soundness.proofs.Room.{load-struck, load-cleared, load-released, load_free, Covers, covers_less, covers_tick, covers_new}
use Rattle.soundness.proofs.Ending.{Ends, served-load, load-served, ends_late, ends_served, ends_struck, ends_released, ends_cleared}

-- each row has room for a job that is released now, and its pending job ends within its response R, counted from 0

abbrev Rooms : {S : Type 0} → (S → ℕ → ℕ) → List Row → (ℕ → ℕ) → RunState S → Type 0
Rooms floor rs R st = (i : ℕ) → i < length rs → Covers floor i st.supply st.clock st.rows (row_at rs i).cost (st.clock + R i)

abbrev AllEnd : {S : Type 0} → (S → ℕ → ℕ) → List Row → (ℕ → ℕ) → RunState S → Type 0
AllEnd floor rs R st = (i : ℕ) → i < length rs → Ends floor i (R i) st.supply st.clock st.rows (state_at st.rows i).active

pub record Responsive {S : Type 0} (bound floor : S → ℕ → ℕ) (rs : List Row) (B R : ℕ → ℕ) (st : RunState S) : Type 0 where
  pub regular : Regular bound rs B st
  pub rooms : Rooms floor rs R st
  pub all_end : AllEnd floor rs R st

module _ {S : Type 0} (bound floor : S → ℕ → ℕ) (step : S → Bool → (Grant × S)) (laws : Lawful bound floor step) (goes : Goes) (by : ByRow goes)
    (rs : List Row) (B R : ℕ → ℕ) (respond : (i : ℕ) → i < length rs → Response rs B i (R i)) where
  rooms_ticked : (offer : Bool) (st : RunState S) → Responsive bound floor rs B R st → Rooms floor rs R (passed step goes offer st)
  rooms_ticked offer st responsive i lt =
      let c : ℕ = st.clock in
      let later : S = (step st.supply offer).1 in
      let g : Grant = (step st.supply offer).0 in
      let mid : List RowState = credited step goes offer st in
      let room = responsive.rooms i lt in
      let orderly = responsive.regular.orderly in
      let e : ℕ = c + 1 + R i in
      let response = respond i lt in
      ⊎_elim
      (λ less.
      let cost : ℕ = (row_at rs i).cost in
      let further : Covers floor i st.supply c st.rows cost (c + 1 + R i) = (room.0, room.1, omega (arith, room.2), room.3) in
      let some : 1 ≤ cost = (row_at rs i).work.0 in
      covers_less floor i later (c + 1) mid (struck (c + 1) mid) cost cost (c + 1 + R i) (λ e lt. omega (arith, load-struck i e (c + 1) (c + 1) mid))
      (covers_tick floor i st.supply later g c (spends bound floor step laws goes st.supply offer c) (laws.empty later) st.rows mid cost cost (c + 1 + R i) some
      (λ e. omega (arith, less e)) further))
      (λ free.
      let same = ap (λ rs. requested (take i rs) (e - (c + 1))) responsive.regular.table in
      covers_new floor i later (c + 1) (struck (c + 1) mid) rs (R i) response.from
      (omega (arith, response.holds, responsive.regular.promised (R i), laws.lasting st.supply offer (R i), laws.covered later (R i)))
      (omega (
        arith,
        load-struck i e (c + 1) (c + 1) mid,
        load-served goes i e c (c + 1) st.rows orderly g (first goes st.rows) refl,
        load_free i e (c + 1) st.rows free,
      )))
      (served-load goes by i c st.rows orderly g (first goes st.rows) refl)

  rooms_after : (c : Call) (st : RunState S) → Responsive bound floor rs B R st → Rooms floor rs R (after step goes c st)
  rooms_after (call.Release n) st responsive =
      unless_refused_both (Rooms floor rs R) (release_answer n st) (with_rows st (change (released n st.clock) (n - 1) st.rows)) st
      (λ x is i lt.
      covers_less floor i st.supply st.clock st.rows (change (released n st.clock) (n - 1) st.rows) (row_at rs i).cost (row_at rs i).cost (st.clock + R i)
      (λ e ahead. omega (arith, load-released i e st.clock n (n - 1) ahead st.rows (due_at n st x is)))
      (responsive.rooms i lt))
      responsive.rooms
  rooms_after (call.End n) st responsive =
      unless_refused_both (Rooms floor rs R) (end_answer n st) (with_rows st (change cleared (n - 1) st.rows)) st
      (λ age is i lt.
      covers_less floor i st.supply st.clock st.rows (change cleared (n - 1) st.rows) (row_at rs i).cost (row_at rs i).cost (st.clock + R i)
      (λ e ahead. omega (arith, load-cleared i e st.clock (n - 1) st.rows))
      (responsive.rooms i lt))
      responsive.rooms
  rooms_after (call.Tick offer) st responsive =
      unless_refused_both (Rooms floor rs R) (tick_answer step goes offer st) (passed step goes offer st) st (λ t is. rooms_ticked offer st responsive) responsive.rooms
  rooms_after call.Look st responsive = responsive.rooms
  rooms_after (call.Pending room) st responsive = responsive.rooms

  there : (st : RunState S) → Responsive bound floor rs B R st → (i : ℕ) → i < length rs → i < length st.rows
  there st responsive i lt = omega (arith, rows_length st.rows rs responsive.regular.table)

  -- after a tick's work is credited, before any job is struck off
  credited_end : (offer : Bool) (st : RunState S) → Responsive bound floor rs B R st → (i : ℕ) → i < length rs
      → Ends floor i (R i) (step st.supply offer).1 (st.clock + 1) (credited step goes offer st) (state_at (credited step goes offer st) i).active
  credited_end offer st responsive i lt =
      let later : S = (step st.supply offer).1 in
      ends_served floor i (R i) goes by st.supply later (step st.supply offer).0 (first goes st.rows) st.clock
      (spends bound floor step laws goes st.supply offer st.clock) (laws.empty later)
      st.rows responsive.regular.orderly (there st responsive i lt) refl (responsive.all_end i lt)

  credited-length : (offer : Bool) (st : RunState S) → Responsive bound floor rs B R st → length (credited step goes offer st) ≡ length rs
  credited-length offer st responsive = length-served (step st.supply offer).0 (first goes st.rows) st.rows ∙ rows_length st.rows rs responsive.regular.table

  all_end_after : (c : Call) (st : RunState S) → Responsive bound floor rs B R st → AllEnd floor rs R (after step goes c st)
  all_end_after (call.Release n) st responsive =
      unless_refused_both (AllEnd floor rs R) (release_answer n st) (with_rows st (change (released n st.clock) (n - 1) st.rows)) st
      (λ x is i lt.
      let row = row_is st.rows rs responsive.regular.table i (there st responsive i lt) in
      ends_released floor i (R i) st.supply st.clock n (n - 1) st.rows (there st responsive i lt) (due_at n st x is)
      (subst (λ (r : Row). Covers floor i st.supply st.clock st.rows r.cost (st.clock + R i)) row (responsive.rooms i lt))
      (subst (λ (r : Row). R i ≤ r.deadline) row (respond i lt).to)
      (responsive.all_end i lt))
      responsive.all_end
  all_end_after (call.End n) st responsive =
      unless_refused_both (AllEnd floor rs R) (end_answer n st) (with_rows st (change cleared (n - 1) st.rows)) st
      (λ age is i lt. ends_cleared floor i (R i) st.supply st.clock (n - 1) st.rows (there st responsive i lt) (responsive.all_end i lt))
      responsive.all_end
  all_end_after (call.Tick offer) st responsive =
      unless_refused_both (AllEnd floor rs R) (tick_answer step goes offer st) (passed step goes offer st) st
      (λ t is i lt.
      ends_struck floor i (R i) (step st.supply offer).1 (st.clock + 1) (st.clock + 1) (credited step goes offer st)
      (omega (arith, credited-length offer st responsive)) (credited_end offer st responsive i lt))
      responsive.all_end
  all_end_after call.Look st responsive = responsive.all_end
  all_end_after (call.Pending room) st responsive = responsive.all_end

  pub responsive_after : (c : Call) (st : RunState S) → Responsive bound floor rs B R st → Responsive bound floor rs B R (after step goes c st)
  responsive_after c st responsive = record {
    regular = regular_after bound floor step laws goes rs B c st responsive.regular;
    rooms = rooms_after c st responsive;
    all_end = all_end_after c st responsive;
  }

  pub responsive_unmissed : (st : RunState S) → Responsive bound floor rs B R st → Unmissed step goes st
  responsive_unmissed st responsive offer =
      sum_by_zero (λ r. late (st.clock + 1) r.active) no_state (credited step goes offer st)
      (λ k lt.
      let mid : List RowState = credited step goes offer st in
      ends_late floor k (R k) (step st.supply offer).1 (st.clock + 1) mid (state_at mid k).active (credited_end offer st responsive k (omega (arith, credited-length offer st responsive))))

  pub responsive_young : (st : RunState S) → Responsive bound floor rs B R st → Young R st
  responsive_young st responsive k lt a has =
      let ends = subst (Ends floor k (R k) st.supply st.clock st.rows) has (responsive.all_end k (omega (arith, rows_length st.rows rs responsive.regular.table))) in
      omega (arith, ends.1.1, ends.1.2)

new_free : (i : ℕ) (rs : List Row) → AllByRecursion Free (take i (map new_row rs))
new_free zero rs = tt
new_free (suc i) [] = tt
new_free (suc i) (r ∷ rs) = (refl, new_free i rs)

new_active : (i : ℕ) (rs : List Row) → (state_at (map new_row rs) i).active ≡ None
new_active i [] = refl
new_active zero (r ∷ rs) = refl
new_active (suc i) (r ∷ rs) = new_active i rs

pub responsive_fresh : {S : Type 0} (bound floor : S → ℕ → ℕ) (step : S → Bool → (Grant × S)) → Lawful bound floor step → (rs : List Row) (s : S) (R : ℕ → ℕ)
    → ((i : ℕ) → i < length rs → Response rs (bound s) i (R i)) → Responsive bound floor rs (bound s) R (fresh rs s)
responsive_fresh bound floor step laws rs s R respond = record {
  regular = regular_fresh bound rs s;
  rooms = λ i lt.
      let response = respond i lt in
      let same = ap (λ rs. requested (take i rs) (0 + R i - 0)) (rows_new rs) in
      covers_new floor i s 0 (map new_row rs) rs (R i) response.from (omega (arith, response.holds, laws.covered s (R i)))
      (omega (arith, load_free i (0 + R i) 0 (map new_row rs) (new_free i rs)));
  all_end = λ i lt. subst (Ends floor i (R i) s 0 (map new_row rs)) (sym (new_active i rs)) tt;
}

-- if each row has a response, no job is missed, and none is older than its row's response as it ends
pub fixed_priority_keeps_time : {S : Type 0} (bound floor : S → ℕ → ℕ) (step : S → Bool → (Grant × S)) → Lawful bound floor step → (goes : Goes) → ByRow goes
    → (rs : List Row) (s : S) (times : List ℕ) → Prioritised rs (bound s) (Ok times) → KeepsTime step goes rs s (λ i. get_or times (i - 1) 0)
fixed_priority_keeps_time bound floor step laws goes by rs s times prioritised =
    let R : ℕ → ℕ = λ k. get_or times k 0 in
    let respond = prioritised.1 in
    keeps_time step goes R (Responsive bound floor rs (bound s) R)
    (responsive_after bound floor step laws goes by rs (bound s) R respond)
    (λ c st responsive. in_time step goes R c st responsive.regular.orderly
    (responsive_young bound floor step laws goes by rs (bound s) R respond st responsive)
    (responsive_unmissed bound floor step laws goes by rs (bound s) R respond st responsive))
    rs s (responsive_fresh bound floor step laws rs s R respond)
