-- What rows may still ask of a supply before a time e: the work of the pending jobs that count, and that of releases to
-- come. What is asked never rises, and falls by each tick that runs a job that counts. Assumes nothing.
use Rattle.std.proofs.Common.{◌≡◌, ℕ, ◌+◌, ◌-◌, ◌<◌, ◌≤◌, max, Bool, true, false, cond, eqb, ltb, leb, List, Some, None, Option, sym, refl, ap, subst, sum_by, arith}
use Rattle.std.specs.List.{AllByRecursion}
use Rattle.std.proofs.lemmas.List.Sums.{sum_by-le-sum_by}
use Rattle.std.proofs.lemmas.Bool.{ltb-true, leb-true, cond_both}
use Rattle.table.specs.declared.row.Row.{Row}
use Rattle.table.proofs.Counts.{released_work, due_work, released_mono, due_mono, released_next, due_next}
use Rattle.dispatch.specs.declared.job.Job.{Job}
use Rattle.dispatch.specs.declared.job.Active.{Active}
use Rattle.dispatch.specs.declared.job.RowState.{RowState}
use Rattle.dispatch.specs.Jobs.{with_active, change, new_job, released, cleared}
use Rattle.dispatch.specs.Ticks.{worked, kept, struck}
use Rattle.dispatch.proofs.Lists.{At, sum_by-map, sum_by_le_where}
use Rattle.dispatch.proofs.Chosen.{Has}
use Rattle.dispatch.proofs.Rows.{table_rows}
use Rattle.soundness.proofs.Sums.{sum_by_change_at, sum_by_change_any}

-- the ticks that a job still wants
abbrev pub remaining : Active → ℕ
remaining a = a.cost - a.ran

-- the same of a pending job, if it counts
abbrev pub wanted : (Job → Bool) → Option Active → ℕ
wanted counts None = 0
wanted counts (Some a) = cond (counts a.job) (remaining a) 0

-- which jobs count, and the most work of a row that counts in t ticks from nothing pending: it does not fall as time
-- goes on, and a release takes from it what it adds to the pending work
pub record Weight (e : ℕ) : Type 0 where
  pub counts : Job → Bool
  pub future : ℕ → Row → ℕ
  pub rising : (a b : ℕ) → a ≤ b → (r : Row) → future a r ≤ future b r
  pub handed : (i clock : ℕ) (r : Row) → clock < e → wanted counts (Some (new_job i clock r)) + future (e - (clock + r.period)) r ≤ future (e - clock) r

pub released_handed : (e i clock : ℕ) (r : Row) → clock < e → r.cost - 0 + released_work (e - (clock + r.period)) r ≤ released_work (e - clock) r
released_handed e i clock r lt =
    omega (arith, released_next (e - clock) r (omega arith), released_mono (e - (clock + r.period)) (e - clock - r.period) (omega arith) r)

-- every job, and what can be released before e
abbrev pub all_work : (e : ℕ) → Weight e
all_work e = record { counts = λ _. true; future = released_work; rising = released_mono; handed = released_handed e }

pub due_handed : (e i clock : ℕ) (r : Row) → clock < e → cond (leb (clock + r.deadline) e) (r.cost - 0) 0 + due_work (e - (clock + r.period)) r ≤ due_work (e - clock) r
due_handed e i clock r lt = by (leb (clock + r.deadline) e) refl
  where
    by : (t : Bool) → leb (clock + r.deadline) e ≡ t → cond t (r.cost - 0) 0 + due_work (e - (clock + r.period)) r ≤ due_work (e - clock) r
    by true test =
        let within : clock + r.deadline ≤ e = leb-true (clock + r.deadline) e test in
        omega (arith, due_next (e - clock) r (omega arith), due_mono (e - (clock + r.period)) (e - clock - r.period) (omega arith) r)
    by false test = omega (arith, due_mono (e - (clock + r.period)) (e - clock) (omega arith) r)

-- the jobs that are due by e, and what can be released and due by then
abbrev pub work_due : (e : ℕ) → Weight e
work_due e = record { counts = λ j. leb j.deadline e; future = due_work; rising = due_mono; handed = due_handed e }

-- one job

cond_fewer : (b : Bool) (m n : ℕ) → m ≤ n → cond b m 0 ≤ cond b n 0
cond_fewer true m n le = le
cond_fewer false m n le = omega arith

cond_most : (b : Bool) (n : ℕ) → cond b n 0 ≤ n
cond_most true n = omega arith
cond_most false n = omega arith

pub kept-wanted : (counts : Job → Bool) (clock : ℕ) (o : Option Active) → wanted counts (kept clock o) ≤ wanted counts o
kept-wanted counts clock None = omega arith
kept-wanted counts clock (Some a) = cond_both (eqb a.job.deadline clock) None (Some a) (λ o. wanted counts o ≤ wanted counts (Some a)) (λ _. omega arith) (λ _. omega arith)

pub worked-wanted : (counts : Job → Bool) (a : Active) → wanted counts (worked a) ≤ wanted counts (Some a)
worked-wanted counts a = cond_both (ltb (a.ran + 1) a.cost) (Some (more a)) None (λ o. wanted counts o ≤ wanted counts (Some a)) (λ _. cond_fewer (counts a.job) (remaining (more a)) (remaining a) (omega arith)) (λ _. omega arith)
  where
    more : Active → Active
    more a = record { job = a.job; cost = a.cost; ran = a.ran + 1 }

-- a tick of work is one that is wanted no more
pub worked_counted : (counts : Job → Bool) (a : Active) → counts a.job ≡ true → a.ran < a.cost → wanted counts (worked a) + 1 ≤ wanted counts (Some a)
worked_counted counts a is lt =
    subst (λ b. wanted counts (worked a) + 1 ≤ cond b (remaining a) 0) (sym is) (by (ltb (a.ran + 1) a.cost) refl)
  where
    by : (b : Bool) → ltb (a.ran + 1) a.cost ≡ b → wanted counts (cond b (Some (record { job = a.job; cost = a.cost; ran = a.ran + 1 })) None) + 1 ≤ remaining a
    by true test = let more : a.ran + 1 < a.cost = ltb-true (a.ran + 1) a.cost test in omega (arith, cond_most (counts a.job) (a.cost - (a.ran + 1)))
    by false test = omega arith

-- one row

module _ {e : ℕ} (w : Weight e) where
  -- what a row may ask for before e from this clock on
  abbrev pub asked : ℕ → RowState → ℕ
  asked clock r = wanted w.counts r.active + w.future (e - max clock r.next) r.row

  asked_later : (c d : ℕ) → c ≤ d → (r : RowState) → asked d r ≤ asked c r
  asked_later c d le r = omega (arith, w.rising (e - max d r.next) (e - max c r.next) (omega arith) r.row)

  asked-released : (i c : ℕ) → c < e → (r : RowState) → r.next ≤ c → asked c (released i c r) ≤ asked c r
  asked-released i c lt r due =
      omega (
        arith,
        w.handed i c r.row lt,
        w.rising (e - max c (c + r.row.period)) (e - (c + r.row.period)) (omega arith) r.row,
        w.rising (e - c) (e - max c r.next) (omega arith) r.row,
      )

  asked-worked : (c : ℕ) (a : Active) (r : RowState) → Has a r → asked c (with_active (worked a) r) ≤ asked c r
  asked-worked c a r has = omega (arith, worked-wanted w.counts a, ap (wanted w.counts) has)

  asked_counted : (c : ℕ) (a : Active) → w.counts a.job ≡ true → a.ran < a.cost → (r : RowState) → Has a r → asked c (with_active (worked a) r) + 1 ≤ asked c r
  asked_counted c a is lt r has = omega (arith, worked_counted w.counts a is lt, ap (wanted w.counts) has)

  -- several rows

  pub sum_by_later : (c d : ℕ) → c ≤ d → (rows : List RowState) → sum_by (asked d) rows ≤ sum_by (asked c) rows
  sum_by_later c d le rows = sum_by-le-sum_by (asked d) (asked c) rows (asked_later c d le)

  pub sum_by-struck : (c d : ℕ) (rows : List RowState) → sum_by (asked c) (struck d rows) ≤ sum_by (asked c) rows
  sum_by-struck c d rows =
      omega (
        arith,
        sum_by-map (asked c) (λ r. with_active (kept d r.active) r) rows,
        sum_by-le-sum_by (λ r. asked c (with_active (kept d r.active) r)) (asked c) rows (λ r. omega (arith, kept-wanted w.counts d r.active)),
      )

  pub sum_by_cleared : (c k : ℕ) (rows : List RowState) → sum_by (asked c) (change cleared k rows) ≤ sum_by (asked c) rows
  sum_by_cleared c k rows = sum_by_change_any (asked c) cleared (λ r. omega arith) k rows

  pub sum_by-released : (i c k : ℕ) → c < e → (rows : List RowState) → At (λ r. r.next ≤ c) k rows → sum_by (asked c) (change (released i c) k rows) ≤ sum_by (asked c) rows
  sum_by-released i c k lt rows at =
      omega (arith, sum_by_change_at (λ r. r.next ≤ c) (asked c) (released i c) 0 (λ r due. omega (arith, asked-released i c lt r due)) k rows at)

  pub sum_by-worked : (c k : ℕ) (a : Active) (rows : List RowState) → At (Has a) k rows → sum_by (asked c) (change (with_active (worked a)) k rows) ≤ sum_by (asked c) rows
  sum_by-worked c k a rows at =
      omega (arith, sum_by_change_at (Has a) (asked c) (with_active (worked a)) 0 (λ r has. omega (arith, asked-worked c a r has)) k rows at)

  pub sum_by_counted : (c k : ℕ) (a : Active) → w.counts a.job ≡ true → a.ran < a.cost → (rows : List RowState) → At (Has a) k rows
      → sum_by (asked c) (change (with_active (worked a)) k rows) + 1 ≤ sum_by (asked c) rows
  sum_by_counted c k a is lt rows at =
      sum_by_change_at (Has a) (asked c) (with_active (worked a)) 1 (asked_counted c a is lt) k rows at

  -- where none that counts is pending, nothing is asked for but what can be released
  pub sum_by_quiet : (Q : RowState → Type 0) → ((r : RowState) → Q r → wanted w.counts r.active ≡ 0)
      → (c : ℕ) (rows : List RowState) → AllByRecursion Q rows → sum_by (asked c) rows ≤ sum_by (w.future (e - c)) (table_rows rows)
  sum_by_quiet Q none c rows all =
      omega (
        arith,
        sum_by-map (w.future (e - c)) (λ (r : RowState). r.row) rows,
        sum_by_le_where Q (asked c) (λ r. w.future (e - c) r.row)
            (λ r q. omega (arith, none r q, w.rising (e - max c r.next) (e - c) (omega arith) r.row)) rows all,
      )
