-- By earliest deadline no job is missed: before each time ahead the supply still owes the work that is due by then, in
-- every state, as long as the table's demand is met. Assumes nothing.
use Rattle.std.proofs.Common.{◌≡◌, ℕ, suc, ◌+◌, ◌-◌, ◌<◌, ◌≤◌, Bool, true, false, cond, eqb, leb, ◌⊎◌, List, [], ◌∷◌, map, Some, None, Option, sym, refl, ap, ◌∙◌, subst, inl, inr, ⊎_elim, sum_by, arith}
use Rattle.std.specs.List.{AllByRecursion}
use Rattle.std.proofs.lemmas.Bool.{cases_lt, eqb-true, le-leb, lt-leb}
use Rattle.supply.specs.declared.grant.Grant.{Grant}
use Rattle.supply.specs.declared.grant.Grant.TheVariants as grant
use Rattle.supply.specs.Grants.{spent}
use Rattle.table.specs.declared.row.Row.{Row}
use Rattle.table.specs.Sums.{demand, row_at}
use Rattle.decision.specs.Decisions.{DemandMet}
use Rattle.dispatch.specs.declared.call.Call.{Call}
use Rattle.dispatch.specs.declared.call.Call.TheVariants as call
use Rattle.dispatch.specs.declared.job.Active.{Active}
use Rattle.dispatch.specs.declared.job.RowState.{RowState}
use Rattle.dispatch.specs.Jobs.{new_row, state_at, change, released, cleared}
use Rattle.dispatch.specs.Ticks.{Goes, first, served, late, missed}
use Rattle.dispatch.specs.Runs.{RunState, fresh, with_rows, release_answer, end_answer, credited, tick_answer, passed, after}
use Rattle.dispatch.specs.Orderly.{Orderly, OrderlyJob}
use Rattle.dispatch.specs.Promises.{KeepsTime}
use Rattle.dispatch.proofs.Lists.{sum_by_le_where}
use Rattle.dispatch.proofs.Chosen.{chosen_at}
use Rattle.dispatch.proofs.Accepted.{unless_refused_both}
use Rattle.dispatch.proofs.Keeping.{orderly_at, orderly_served}
use Rattle.dispatch.proofs.Rows.{table_rows, rows_new}
use Rattle.soundness.proofs.Lawful.{Lawful}
use Rattle.soundness.proofs.Weights.{wanted, work_due, asked, sum_by_later, sum_by-struck, sum_by_cleared, sum_by-released, sum_by-worked, sum_by_counted, sum_by_quiet}
use Rattle.soundness.proofs.Orders.{ByDeadline, From, chosen_from_all}
use Rattle.soundness.proofs.Regular.{Regular, row_is, due_at, chosen_orderly, spends, regular_after, regular_fresh}
use Rattle.soundness.proofs.Timing.{Young, Unmissed, in_time, keeps_time}

-- the work of these rows that is due by d, from this clock on
abbrev due_by : ℕ → ℕ → List RowState → ℕ
due_by d clock rows = sum_by (asked (work_due d) clock) rows

-- a job that is due after d wants nothing by then
later_wanted : (d n : ℕ) → d < n → (o : Option Active) → From (λ j. j.deadline) n o → wanted (work_due d).counts o ≡ 0
later_wanted d n lt None from = refl
later_wanted d n lt (Some a) from = ap (λ b. cond b (a.cost - a.ran) 0) (lt-leb a.job.deadline d (omega arith))

quiet_due : (d n clock : ℕ) → d < n → (rows : List RowState) → AllByRecursion (λ r. From (λ j. j.deadline) n r.active) rows → due_by d clock rows ≤ demand (table_rows rows) (d - clock)
unfolding demand
quiet_due d n clock lt rows from = sum_by_quiet (work_due d) (λ r. From (λ j. j.deadline) n r.active) (λ r q. later_wanted d n lt r.active q) clock rows from

-- a granted tick runs a job that is due by d, or none of these is pending
served_due : (goes : Goes) → ByDeadline goes → (clock d : ℕ) (rows : List RowState) → Orderly clock 1 rows → (g : Grant) (p : Option Active) → first goes rows ≡ p
    → (due_by d clock (served g p rows) + spent g ≤ due_by d clock rows) ⊎ (due_by d (clock + 1) (served g p rows) ≤ demand (table_rows rows) (d - (clock + 1)))
served_due goes early clock d rows orderly grant.Withheld p is = inl (omega arith)
served_due goes early clock d rows orderly grant.Granted None is =
    inr (quiet_due d (d + 1) (clock + 1) (omega arith) rows (chosen_from_all (λ j. j.deadline) goes early (d + 1) rows (subst (From (λ j. j.deadline) (d + 1)) (sym is) tt)))
served_due goes early clock d rows orderly grant.Granted (Some a) is =
    let at = chosen_at goes clock rows a orderly is in
    let k : ℕ = a.job.row - 1 in
    ⊎_elim
    (λ after_d.
    let from = chosen_from_all (λ j. j.deadline) goes early a.job.deadline rows (subst (From (λ j. j.deadline) a.job.deadline) (sym is) (omega arith)) in
    inr (omega (arith, quiet_due d a.job.deadline (clock + 1) after_d rows from, sum_by-worked (work_due d) (clock + 1) k a rows at)))
    (λ by_d. inl (sum_by_counted (work_due d) clock k a (le-leb a.job.deadline d by_d) (chosen_orderly goes clock rows a orderly is).6 rows at))
    (cases_lt d a.job.deadline)

-- a job that is struck off wants work by then

abbrev Live : Option Active → Type 0
Live None = Unit {0}
Live (Some a) = a.ran < a.cost

late-wanted : (clock : ℕ) (o : Option Active) → Live o → late clock o ≤ wanted (work_due clock).counts o
late-wanted clock None live = omega arith
late-wanted clock (Some a) live = by (eqb a.job.deadline clock) refl
  where
    by : (t : Bool) → eqb a.job.deadline clock ≡ t → cond t 1 0 ≤ cond (leb a.job.deadline clock) (a.cost - a.ran) 0
    by true test =
        let now_due : leb a.job.deadline clock ≡ true = le-leb a.job.deadline clock (omega (arith, eqb-true a.job.deadline clock test)) in
        subst (λ b. 1 ≤ cond b (a.cost - a.ran) 0) (sym now_due) (omega arith)
    by false test = omega arith

all_live : (clock i : ℕ) (rows : List RowState) → Orderly clock i rows → AllByRecursion (λ r. Live r.active) rows
all_live clock i [] orderly = tt
all_live clock i (r ∷ rows) orderly = (own r.active orderly.0, all_live clock (suc i) rows orderly.1)
  where
    own : (o : Option Active) → OrderlyJob clock i r o → Live o
    own None job = tt
    own (Some a) job = job.6

missed_due : (clock i : ℕ) (rows : List RowState) → Orderly clock i rows → missed (clock + 1) rows ≤ due_by (clock + 1) (clock + 1) rows
missed_due clock i rows orderly =
    sum_by_le_where (λ r. Live r.active) (λ r. late (clock + 1) r.active) (asked (work_due (clock + 1)) (clock + 1))
    (λ r live. omega (arith, late-wanted (clock + 1) r.active live)) rows (all_live clock i rows orderly)

-- before each time ahead the supply owes the work that is due by then
abbrev Owes : {S : Type 0} → (S → ℕ → ℕ) → RunState S → Type 0
Owes floor st = (d : ℕ) → st.clock < d → due_by d st.clock st.rows ≤ floor st.supply (d - st.clock)

pub record Timely {S : Type 0} (bound floor : S → ℕ → ℕ) (rs : List Row) (B : ℕ → ℕ) (st : RunState S) : Type 0 where
  pub regular : Regular bound rs B st
  pub owes : Owes floor st

module _ {S : Type 0} (bound floor : S → ℕ → ℕ) (step : S → Bool → (Grant × S)) (laws : Lawful bound floor step) (goes : Goes) (early : ByDeadline goes)
    (rs : List Row) (B : ℕ → ℕ) (met : DemandMet rs B) where
  -- after a tick's work is credited, before any job is struck off
  credited_owes : (offer : Bool) (st : RunState S) → Timely bound floor rs B st → (d : ℕ) → st.clock < d
      → due_by d (st.clock + 1) (credited step goes offer st) ≤ floor (step st.supply offer).1 (d - (st.clock + 1))
  credited_owes offer st timely d lt =
      let later : S = (step st.supply offer).1 in
      let t : ℕ = d - (st.clock + 1) in
      let same = ap (λ rs. demand rs t) timely.regular.table in
      ⊎_elim
      (λ less. omega (arith, timely.owes d lt, spends bound floor step laws goes st.supply offer st.clock d lt, sum_by_later (work_due d) st.clock (st.clock + 1) (omega arith) (credited step goes offer st)))
      (λ none. omega (arith, met t, timely.regular.promised t, laws.lasting st.supply offer t, laws.covered later t))
      (served_due goes early st.clock d st.rows timely.regular.orderly (step st.supply offer).0 (first goes st.rows) refl)

  pub timely_unmissed : (st : RunState S) → Timely bound floor rs B st → Unmissed step goes st
  timely_unmissed st timely offer =
      let c : ℕ = st.clock + 1 in
      let none : floor (step st.supply offer).1 (c - c) ≡ 0 = ap (floor (step st.supply offer).1) (omega arith) ∙ laws.empty (step st.supply offer).1 in
      omega (
        arith,
        credited_owes offer st timely c (omega arith),
        missed_due st.clock 1 (credited step goes offer st) (orderly_served (step st.supply offer).0 goes st.clock st.rows timely.regular.orderly),
      )

  owes_after : (c : Call) (st : RunState S) → Timely bound floor rs B st → Owes floor (after step goes c st)
  owes_after (call.Release i) st timely =
      unless_refused_both (Owes floor) (release_answer i st) (with_rows st (change (released i st.clock) (i - 1) st.rows)) st
      (λ x is d lt. omega (arith, timely.owes d lt, sum_by-released (work_due d) i st.clock (i - 1) lt st.rows (due_at i st x is)))
      timely.owes
  owes_after (call.End i) st timely =
      unless_refused_both (Owes floor) (end_answer i st) (with_rows st (change cleared (i - 1) st.rows)) st
      (λ age is d lt. omega (arith, timely.owes d lt, sum_by_cleared (work_due d) st.clock (i - 1) st.rows))
      timely.owes
  owes_after (call.Tick offer) st timely =
      unless_refused_both (Owes floor) (tick_answer step goes offer st) (passed step goes offer st) st
      (λ t is d lt. omega (arith, credited_owes offer st timely d (omega arith), sum_by-struck (work_due d) (st.clock + 1) (st.clock + 1) (credited step goes offer st)))
      timely.owes
  owes_after call.Look st timely = timely.owes
  owes_after (call.Pending room) st timely = timely.owes

  pub timely_after : (c : Call) (st : RunState S) → Timely bound floor rs B st → Timely bound floor rs B (after step goes c st)
  timely_after c st timely = record { regular = regular_after bound floor step laws goes rs B c st timely.regular; owes = owes_after c st timely }

-- a pending job is not due yet
pub timely_young : {S : Type 0} (bound floor : S → ℕ → ℕ) (rs : List Row) (B : ℕ → ℕ) (st : RunState S)
    → Timely bound floor rs B st → Young (λ k. (row_at rs k).deadline) st
timely_young bound floor rs B st timely k lt a has =
    let own = subst (OrderlyJob st.clock (k + 1) (state_at st.rows k)) has (orderly_at st.clock st.rows timely.regular.orderly k lt) in
    omega (arith, own.1, own.4, ap (λ (r : Row). r.deadline) (row_is st.rows rs timely.regular.table k lt))

new_from : (n : ℕ) (rs : List Row) → AllByRecursion (λ r. From (λ j. j.deadline) n r.active) (map new_row rs)
new_from n [] = tt
new_from n (r ∷ rs) = (tt, new_from n rs)

pub timely_fresh : {S : Type 0} (bound floor : S → ℕ → ℕ) (step : S → Bool → (Grant × S)) → Lawful bound floor step → (rs : List Row) (s : S) → DemandMet rs (bound s)
    → Timely bound floor rs (bound s) (fresh rs s)
timely_fresh bound floor step laws rs s met = record {
  regular = regular_fresh bound rs s;
  owes = λ d lt.
      let same = ap (λ rs. demand rs (d - 0)) (rows_new rs) in
      omega (arith, quiet_due d (d + 1) 0 (omega arith) (map new_row rs) (new_from (d + 1) rs), met (d - 0), laws.covered s (d - 0));
}

-- if the supply promises in any t ticks what is due within t, no job is missed, and none is older than its row's
-- deadline as it ends
pub earliest_deadline_keeps_time : {S : Type 0} (bound floor : S → ℕ → ℕ) (step : S → Bool → (Grant × S)) → Lawful bound floor step → (goes : Goes) → ByDeadline goes
    → (rs : List Row) (s : S) → DemandMet rs (bound s) → KeepsTime step goes rs s (λ i. (row_at rs (i - 1)).deadline)
earliest_deadline_keeps_time bound floor step laws goes early rs s met =
    keeps_time step goes (λ k. (row_at rs k).deadline) (Timely bound floor rs (bound s))
    (timely_after bound floor step laws goes early rs (bound s) met)
    (λ c st timely. in_time step goes (λ k. (row_at rs k).deadline) c st timely.regular.orderly
    (timely_young bound floor rs (bound s) st timely)
    (timely_unmissed bound floor step laws goes early rs (bound s) met st timely))
    rs s (timely_fresh bound floor step laws rs s met)
