-- What holds over every list of calls of a new run. Assumes nothing.
use Rattle.std.specs.Prelude.{◌≡◌, ℕ, ◌+◌, ◌≤◌, Bool, List, [], ◌∷◌, ◌++◌, length, sum_by}
use Rattle.supply.specs.declared.grant.Grant.{Grant}
use Rattle.table.specs.declared.row.Row.{Row}
use Rattle.dispatch.specs.declared.call.Call.{Call}
use Rattle.dispatch.specs.declared.call.Call.TheVariants as call
use Rattle.dispatch.specs.declared.reply.Progress.{Progress}
use Rattle.dispatch.specs.declared.reply.Progress.TheVariants.{Withheld, Idle, Ran, Ended}
use Rattle.dispatch.specs.declared.reply.Ticked.{Ticked}
use Rattle.dispatch.specs.declared.reply.Reply.{Reply}
use Rattle.dispatch.specs.declared.reply.Reply.TheVariants as told
use Rattle.dispatch.specs.Progresses.{granted_one, ran_one, idle_one, ended_one}
use Rattle.dispatch.specs.Jobs.{jobs_of}
use Rattle.dispatch.specs.Ticks.{Goes}
use Rattle.dispatch.specs.Runs.{RunState, fresh, reply, replies, after_all}

-- an age limit for each row, counted from 1

abbrev pub EndsWithin : (ℕ → ℕ) → Progress → Type 0
EndsWithin limit Withheld = Unit {0}
EndsWithin limit Idle = Unit {0}
EndsWithin limit (Ran row) = Unit {0}
EndsWithin limit (Ended row age) = age ≤ limit row

-- the row that a call names, or 0
abbrev pub row_named : Call → ℕ
row_named (call.Release i) = i
row_named (call.End i) = i
row_named (call.Tick offer) = 0
row_named call.Look = 0
row_named (call.Pending room) = 0

-- a tick answers 0 missed, and a job that ends, by an end or by a tick, is no older than its row's limit
abbrev pub InTime : (ℕ → ℕ) → Call → Reply → Type 0
InTime limit c told.Released = Unit {0}
InTime limit c (told.Ended age) = age ≤ limit (row_named c)
InTime limit c (told.Ticked t) = (t.missed ≡ 0) × EndsWithin limit t.progress
InTime limit c (told.Looked l) = Unit {0}
InTime limit c (told.Pending n) = Unit {0}
InTime limit c (told.Refused f) = Unit {0}

-- of each call with its reply
abbrev pub Each : (Call → Reply → Type 0) → List Call → List Reply → Type 0
Each P [] [] = Unit {0}
Each P [] (r ∷ rs) = ⊥
Each P (c ∷ cs) [] = ⊥
Each P (c ∷ cs) (r ∷ rs) = P c r × Each P cs rs

module _ {S : Type 0} (step : S → Bool → (Grant × S)) (goes : Goes) (rs : List Row) (s : S) where
  -- no job is missed and none ends too old, whatever is called and offered
  abbrev pub KeepsTime : (ℕ → ℕ) → Type 0
  KeepsTime limit = (cs : List Call) → Each (InTime limit) cs (replies step goes cs (fresh rs s))

-- 1 for a tick that was not refused, for an accepted release, and for a job that was ended; and the jobs missed

abbrev pub tick_one : Reply → ℕ
tick_one told.Released = 0
tick_one (told.Ended age) = 0
tick_one (told.Ticked t) = 1
tick_one (told.Looked l) = 0
tick_one (told.Pending n) = 0
tick_one (told.Refused f) = 0

abbrev pub release_one : Reply → ℕ
release_one told.Released = 1
release_one (told.Ended age) = 0
release_one (told.Ticked t) = 0
release_one (told.Looked l) = 0
release_one (told.Pending n) = 0
release_one (told.Refused f) = 0

abbrev pub end_one : Reply → ℕ
end_one told.Released = 0
end_one (told.Ended age) = 1
end_one (told.Ticked t) = ended_one t.progress
end_one (told.Looked l) = 0
end_one (told.Pending n) = 0
end_one (told.Refused f) = 0

abbrev pub missed_of : Reply → ℕ
missed_of told.Released = 0
missed_of (told.Ended age) = 0
missed_of (told.Ticked t) = t.missed
missed_of (told.Looked l) = 0
missed_of (told.Pending n) = 0
missed_of (told.Refused f) = 0

-- a number of each tick's progress
abbrev pub of_tick : (Progress → ℕ) → Reply → ℕ
of_tick f told.Released = 0
of_tick f (told.Ended age) = 0
of_tick f (told.Ticked t) = f t.progress
of_tick f (told.Looked l) = 0
of_tick f (told.Pending n) = 0
of_tick f (told.Refused f') = 0

-- no job is lost or made up: each accepted release was ended, or missed, or is pending
abbrev pub Conserved : {S : Type 0} → List Reply → RunState S → Type 0
Conserved rs st = sum_by release_one rs ≡ sum_by end_one rs + sum_by missed_of rs + length (jobs_of st.rows)

-- the counters are what the ticks answered
pub record Counted {S : Type 0} (rs : List Reply) (st : RunState S) : Type 0 where
  pub clock : st.clock ≡ sum_by tick_one rs
  pub granted : st.granted ≡ sum_by (of_tick granted_one) rs
  pub ran : st.ran ≡ sum_by (of_tick ran_one) rs
  pub idle : st.idle ≡ sum_by (of_tick idle_one) rs

module _ {S : Type 0} (step : S → Bool → (Grant × S)) (goes : Goes) where
  -- a tick of these calls is not refused and ends with nothing pending: a pending call right after it answers 0
  abbrev pub QuietTick : List Call → RunState S → Type 0
  QuietTick cs st =
      (before : List Call) × (offer : Bool) × (further : List Call)
      × (cs ≡ before ++ call.Tick offer ∷ further)
      × ((t : Ticked) × (reply step goes (call.Tick offer) (after_all step goes before st) ≡ told.Ticked t))
      × (reply step goes (call.Pending 0) (after_all step goes (before ++ call.Tick offer ∷ []) st) ≡ told.Pending 0)

  -- among any l ticks in a row, whatever is called before and between, one ends with nothing pending
  abbrev pub QuietWithin : ℕ → RunState S → Type 0
  QuietWithin l st =
      (before window : List Call) → l ≤ sum_by tick_one (replies step goes window (after_all step goes before st))
      → QuietTick window (after_all step goes before st)
