-- Where a supply covers what a table can release in l ticks, of any l ticks in a row one ends with nothing pending,
-- whatever the order of jobs. Assumes nothing.
use Rattle.std.proofs.Common.{◌≡◌, ℕ, suc, ◌+◌, ◌-◌, ◌<◌, ◌≤◌, Bool, true, cond, leb, ◌⊎◌, List, [], ◌∷◌, map, length, Some, None, Ok, Err, Option, sym, refl, ap, ◌∙◌, subst, subst₂, inl, inr, ⊎_elim, sum_by, arith}
use Rattle.std.specs.List.{AllByRecursion}
use Rattle.std.proofs.ByRecursion.{All-map, All-weaker}
use Rattle.std.proofs.lemmas.List.Sums.{sum_by-cons}
use Rattle.std.proofs.lemmas.Bool.{cases_lt}
use Rattle.fault.specs.declared.rule.Rule.TheVariants as rule
use Rattle.fault.specs.Rules.{fault_of}
use Rattle.supply.specs.declared.grant.Grant.{Grant}
use Rattle.supply.specs.declared.grant.Grant.TheVariants as grant
use Rattle.supply.specs.Grants.{spent}
use Rattle.table.specs.declared.row.Row.{Row}
use Rattle.table.specs.Sums.{requested}
use Rattle.table.proofs.Counts.{released_work}
use Rattle.decision.specs.Decisions.{Window}
use Rattle.dispatch.specs.declared.call.Call.{Call}
use Rattle.dispatch.specs.declared.call.Call.TheVariants as call
use Rattle.dispatch.specs.declared.job.Job.{Job}
use Rattle.dispatch.specs.declared.job.Active.{Active}
use Rattle.dispatch.specs.declared.job.RowState.{RowState}
use Rattle.dispatch.specs.declared.reply.Ticked.{Ticked}
use Rattle.dispatch.specs.declared.reply.Reply.{Reply}
use Rattle.dispatch.specs.declared.reply.Reply.TheVariants as told
use Rattle.dispatch.specs.Jobs.{new_row, no_state, with_active, change, released, cleared}
use Rattle.dispatch.specs.Ticks.{Goes, first, served, kept, struck}
use Rattle.dispatch.specs.Runs.{RunState, fresh, with_rows, release_answer, end_answer, credited, tick_answer, passed, unless_refused, replied, reply, after, replies, after_all}
use Rattle.dispatch.specs.Orderly.{Orderly, OrderlyJob}
use Rattle.dispatch.specs.Promises.{tick_one, QuietTick, QuietWithin}
use Rattle.dispatch.proofs.Lists.{At, at_from}
use Rattle.dispatch.proofs.Chosen.{Free, chosen_at, chosen_none_free, free_no_jobs}
use Rattle.dispatch.proofs.Accepted.{unless_refused_both, reply_both, release_accepted}
use Rattle.dispatch.proofs.Counts.{counters_after}
use Rattle.soundness.proofs.Lawful.{Lawful}
use Rattle.soundness.proofs.Weights.{all_work, wanted, asked, sum_by_later, sum_by-struck, sum_by_cleared, sum_by-released, sum_by_counted, sum_by_quiet}
use Rattle.soundness.proofs.Regular.{Regular, regular_after, regular_fresh, chosen_orderly, spends}

-- rows with nothing pending

new_free : (rs : List Row) → AllByRecursion Free (map new_row rs)
new_free [] = tt
new_free (r ∷ rs) = (refl, new_free rs)

struck_free : (clock : ℕ) (rows : List RowState) → AllByRecursion Free rows → AllByRecursion Free (struck clock rows)
struck_free clock rows free = All-map Free (λ r. with_active (kept clock r.active) r) rows (All-weaker Free (λ r. kept clock r.active ≡ None) (λ r none. ap (kept clock) none) rows free)

free_wants_none : (counts : Job → Bool) (r : RowState) → Free r → wanted counts r.active ≡ 0
free_wants_none counts r none = ap (wanted counts) none

wants_none_free : (clock i : ℕ) (r : RowState) (o : Option Active) → OrderlyJob clock i r o → wanted (λ _. true) o ≡ 0 → o ≡ None
wants_none_free clock i r None own none = refl
wants_none_free clock i r (Some a) own none = absurd (omega (arith, own.6))

-- rows that ask for nothing have nothing pending
asks_none_free : (e clock i : ℕ) (rows : List RowState) → Orderly clock i rows → sum_by (asked (all_work e) clock) rows ≡ 0 → AllByRecursion Free rows
asks_none_free e clock i [] orderly none = tt
asks_none_free e clock i (r ∷ rows) orderly none =
    let parts : asked (all_work e) clock r + sum_by (asked (all_work e) clock) rows ≡ 0 = sym (sum_by-cons (asked (all_work e) clock) r rows) ∙ none in
    (wants_none_free clock i r r.active orderly.0 (omega arith), asks_none_free e clock (suc i) rows orderly.1 (omega arith))

-- a tick's work

module _ (goes : Goes) (e clock : ℕ) (rows : List RowState) (orderly : Orderly clock 1 rows) where
  -- a granted tick finds nothing pending, or takes one from what is asked for
  served_asks : (g : Grant) (p : Option Active) → first goes rows ≡ p
      → AllByRecursion Free (served g p rows) ⊎ (sum_by (asked (all_work e) clock) (served g p rows) + spent g ≤ sum_by (asked (all_work e) clock) rows)
  served_asks grant.Withheld p is = inr (omega arith)
  served_asks grant.Granted None is = inl (chosen_none_free goes rows is)
  served_asks grant.Granted (Some a) is =
      inr (sum_by_counted (all_work e) clock (a.job.row - 1) a refl (chosen_orderly goes clock rows a orderly is).6 rows (chosen_at goes clock rows a orderly is))

module _ {S : Type 0} (bound floor : S → ℕ → ℕ) (step : S → Bool → (Grant × S)) (laws : Lawful bound floor step) (goes : Goes)
    (rs : List Row) (B : ℕ → ℕ) (l : ℕ) (some : 1 ≤ l) (fits : requested rs l ≤ B l) where
  -- what may still be asked of the supply before e is promised by then
  abbrev Covered : ℕ → RunState S → Type 0
  Covered e st = (st.clock < e) × (sum_by (asked (all_work e) st.clock) st.rows ≤ floor st.supply (e - st.clock))

  -- where nothing is pending, the next l ticks are promised all that can be asked for in them
  covered_quiet : (st : RunState S) → Regular bound rs B st → AllByRecursion Free st.rows → Covered (st.clock + l) st
  unfolding requested
  covered_quiet st regular free =
      let e : ℕ = st.clock + l in
      let same : e - st.clock ≡ l = omega arith in
      let most : sum_by (asked (all_work e) st.clock) st.rows ≤ requested rs l =
      subst₂ (λ t rs'. sum_by (asked (all_work e) st.clock) st.rows ≤ sum_by (released_work t) rs') same regular.table
      (sum_by_quiet (all_work e) Free (free_wants_none (λ _. true)) st.clock st.rows free) in
      let promised : bound st.supply l ≡ B l = regular.promised l in
      (omega arith, subst (λ t. sum_by (asked (all_work e) st.clock) st.rows ≤ floor st.supply t) (sym same) (omega (arith, most, fits, laws.covered st.supply l)))

  covered_released : (e i : ℕ) (st : RunState S) → Covered e st → At (λ r. r.next ≤ st.clock) (i - 1) st.rows
      → Covered e (with_rows st (change (released i st.clock) (i - 1) st.rows))
  covered_released e i st covered due = (covered.0, omega (arith, covered.1, sum_by-released (all_work e) i st.clock (i - 1) covered.0 st.rows due))

  -- a tick ends with nothing pending, or what is asked for is still promised
  covered_passed : (e : ℕ) (offer : Bool) (st : RunState S) → Regular bound rs B st → Regular bound rs B (passed step goes offer st) → Covered e st
      → AllByRecursion Free (passed step goes offer st).rows ⊎ Covered e (passed step goes offer st)
  covered_passed e offer st regular later covered =
      let g : Grant = (step st.supply offer).0 in
      let rows : List RowState = credited step goes offer st in
      let new : RunState S = passed step goes offer st in
      ⊎_elim
      (λ free. inl (struck_free (st.clock + 1) rows free))
      (λ less.
      let asks : sum_by (asked (all_work e) (st.clock + 1)) new.rows + spent g ≤ sum_by (asked (all_work e) st.clock) st.rows =
      omega (arith, less, sum_by_later (all_work e) st.clock (st.clock + 1) (omega arith) rows, sum_by-struck (all_work e) (st.clock + 1) (st.clock + 1) rows) in
      let gives : floor st.supply (e - st.clock) ≤ floor new.supply (e - (st.clock + 1)) + spent g = spends bound floor step laws goes st.supply offer st.clock e covered.0 in
      ⊎_elim
      (λ before. inr (before, omega (arith, asks, gives, covered.1)))
      (λ over.
      let end : e - (st.clock + 1) ≡ 0 = omega arith in
      let none : floor new.supply (e - (st.clock + 1)) ≡ 0 = ap (floor new.supply) end ∙ laws.empty new.supply in
      inl (asks_none_free e (st.clock + 1) 1 new.rows later.orderly (omega (arith, asks, gives, covered.1))))
      (cases_lt (st.clock + 1) e))
      (served_asks goes e st.clock st.rows regular.orderly g (first goes st.rows) refl)

  -- a call that is an accepted tick and leaves nothing pending
  abbrev Quiets : Call → Reply → RunState S → Type 0
  Quiets c r new = (offer : Bool) × (c ≡ call.Tick offer) × ((t : Ticked) × (r ≡ told.Ticked t)) × AllByRecursion Free new.rows

  covered_after : (e : ℕ) (c : Call) (st : RunState S) → Regular bound rs B st → Covered e st
      → Quiets c (reply step goes c st) (after step goes c st) ⊎ Covered e (after step goes c st)
  covered_after e (call.Release i) st regular covered =
      inr (unless_refused_both (Covered e) (release_answer i st) (with_rows st (change (released i st.clock) (i - 1) st.rows)) st
      (λ x is.
      let accepted = release_accepted i st x is in
      covered_released e i st covered (at_from (λ r. r.next ≤ st.clock) no_state (i - 1) st.rows (omega (arith, accepted.0, accepted.1)) accepted.2))
      covered)
  covered_after e (call.End i) st regular covered =
      inr (unless_refused_both (Covered e) (end_answer i st) (with_rows st (change cleared (i - 1) st.rows)) st
      (λ age is. (covered.0, omega (arith, covered.1, sum_by_cleared (all_work e) st.clock (i - 1) st.rows)))
      covered)
  covered_after e (call.Tick offer) st regular covered =
      reply_both (λ r new. Quiets (call.Tick offer) r new ⊎ Covered e new) told.Ticked (tick_answer step goes offer st) (passed step goes offer st) st
      (λ t is. ⊎_elim (λ free. inl (offer, refl, (t, refl), free)) inr (covered_passed e offer st regular (accepted t is) covered))
      (λ f. inr covered)
    where
      accepted : (t : Ticked) → tick_answer step goes offer st ≡ Ok t → Regular bound rs B (passed step goes offer st)
      accepted t is = subst (λ a. Regular bound rs B (unless_refused a (passed step goes offer st) st)) is (regular_after bound floor step laws goes rs B (call.Tick offer) st regular)
  covered_after e call.Look st regular covered = inr covered
  covered_after e (call.Pending room) st regular covered = inr covered

  -- lists of calls

  pending_none : (new : RunState S) → AllByRecursion Free new.rows → reply step goes (call.Pending 0) new ≡ told.Pending 0
  pending_none new free =
      ap (λ (js : List Job). replied told.Pending (cond (leb (length js) 0) (Ok (length js)) (Err (fault_of rule.RoomForJobs (length js) 0)))) (free_no_jobs new.rows free)

  quiet_here : (c : Call) (cs : List Call) (st : RunState S) → Quiets c (reply step goes c st) (after step goes c st) → QuietTick step goes (c ∷ cs) st
  quiet_here c cs st quiets =
      let offer : Bool = quiets.0 in
      let is : c ≡ call.Tick offer = quiets.1 in (
        [],
        offer,
        cs,
        ap (λ d. d ∷ cs) is,
        subst (λ d. (t : Ticked) × (reply step goes d st ≡ told.Ticked t)) is quiets.2,
        subst (λ d. reply step goes (call.Pending 0) (after step goes d st) ≡ told.Pending 0) is (pending_none (after step goes c st) quiets.3),
      )

  quiet_further : (c : Call) (cs : List Call) (st : RunState S) → QuietTick step goes cs (after step goes c st) → QuietTick step goes (c ∷ cs) st
  quiet_further c cs st quiet = (c ∷ quiet.0, quiet.1, quiet.2, ap (λ ds. c ∷ ds) quiet.3, quiet.4, quiet.5)

  quiet_by : (e : ℕ) (cs : List Call) (st : RunState S) → Regular bound rs B st → Covered e st → e ≤ st.clock + sum_by tick_one (replies step goes cs st)
      → QuietTick step goes cs st
  quiet_by e [] st regular covered within = absurd (omega (arith, covered.0))
  quiet_by e (c ∷ cs) st regular covered within =
      ⊎_elim
      (quiet_here c cs st)
      (λ further. quiet_further c cs st
      (quiet_by e cs (after step goes c st) (regular_after bound floor step laws goes rs B c st regular) further
      (omega (arith, sum_by-cons tick_one (reply step goes c st) (replies step goes cs (after step goes c st)), (counters_after step goes c st).0))))
      (covered_after e c st regular covered)

  -- in every state what is asked for is promised within l ticks
  abbrev Closing : RunState S → Type 0
  Closing st = Regular bound rs B st × ((e : ℕ) × Covered e st × (e ≤ st.clock + l))

  closing_quiet : (st : RunState S) → Regular bound rs B st → AllByRecursion Free st.rows → Closing st
  closing_quiet st regular free = (regular, (st.clock + l, covered_quiet st regular free, omega arith))

  closing_after : (cs : List Call) (st : RunState S) → Closing st → Closing (after_all step goes cs st)
  closing_after [] st closing = closing
  closing_after (c ∷ cs) st closing =
      let new : RunState S = after step goes c st in
      let regular : Regular bound rs B new = regular_after bound floor step laws goes rs B c st closing.0 in
      closing_after cs new (⊎_elim
      (λ quiets. closing_quiet new regular quiets.3)
      (λ covered. (regular, (closing.1.0, covered, omega (arith, closing.1.2, (counters_after step goes c st).0))))
      (covered_after closing.1.0 c st closing.0 closing.1.1))

  closes : (st : RunState S) → Closing st → QuietWithin step goes l st
  closes st closing before window long =
      let then : RunState S = after_all step goes before st in
      let still : Closing then = closing_after before st closing in
      quiet_by still.1.0 window then still.0 still.1.1 (omega (arith, still.1.2, long))

pub busy_window_ends : {S : Type 0} (bound floor : S → ℕ → ℕ) (step : S → Bool → (Grant × S)) → Lawful bound floor step → (goes : Goes)
    → (rs : List Row) (s : S) (l : ℕ) → Window rs (bound s) l → QuietWithin step goes l (fresh rs s)
busy_window_ends bound floor step laws goes rs s l window =
    closes bound floor step laws goes rs (bound s) l window.from window.holds (fresh rs s)
    (closing_quiet bound floor step laws goes rs (bound s) l window.from window.holds (fresh rs s) (regular_fresh bound rs s) (new_free rs))
