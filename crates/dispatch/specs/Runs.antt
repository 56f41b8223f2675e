-- What a run answers to each call and holds after it, for any supply, by its step, and any order. Assumes nothing.
use Rattle.std.specs.Prelude.{ℕ, ◌+◌, ◌-◌, Bool, cond, ◌&&◌, List, [], ◌∷◌, map, length, Some, None, Ok, Err, Option, Result, nat_le, nat_lt}
use Rattle.fault.specs.declared.fault.Fault.{Fault}
use Rattle.fault.specs.declared.rule.Rule.TheVariants as rule
use Rattle.fault.specs.Rules.{fault_of}
use Rattle.fault.specs.Steps.{and_then}
use Rattle.supply.specs.declared.grant.Grant.{Grant}
use Rattle.table.specs.declared.row.Row.{Row}
use Rattle.dispatch.specs.declared.call.Call.{Call}
use Rattle.dispatch.specs.declared.call.Call.TheVariants as call
use Rattle.dispatch.specs.declared.job.Active.{Active}
use Rattle.dispatch.specs.declared.job.RowState.{RowState}
use Rattle.dispatch.specs.declared.reply.Progress.{Progress}
use Rattle.dispatch.specs.declared.reply.Ticked.{Ticked}
use Rattle.dispatch.specs.declared.reply.Looked.{Looked}
use Rattle.dispatch.specs.declared.reply.Reply.{Reply}
use Rattle.dispatch.specs.declared.reply.Reply.TheVariants as told
use Rattle.dispatch.specs.Progresses.{granted_one, ran_one, idle_one}
use Rattle.dispatch.specs.Jobs.{new_row, state_at, change, released, cleared, jobs_of}
use Rattle.dispatch.specs.Ticks.{Goes, first, served, progress, struck, missed, lowest}

-- the clock, the supply's state, the rows, and the ticks so far that were granted, run and idle
pub record RunState (S : Type 0) : Type 0 where
  pub clock : ℕ
  pub supply : S
  pub rows : List RowState
  pub granted : ℕ
  pub ran : ℕ
  pub idle : ℕ

-- a new run: clock 0 and no job
abbrev pub fresh : {S : Type 0} → List Row → S → RunState S
fresh rs s = record { clock = 0; supply = s; rows = map new_row rs; granted = 0; ran = 0; idle = 0 }

abbrev pub with_rows : {S : Type 0} → RunState S → List RowState → RunState S
with_rows st rows = record { clock = st.clock; supply = st.supply; rows = rows; granted = st.granted; ran = st.ran; idle = st.idle }

-- a refused call leaves what was there
abbrev pub unless_refused : {A B : Type 0} → Result A Fault → B → B → B
unless_refused (Ok _) new old = new
unless_refused (Err _) new old = old

-- the place of row i in a table of n rows: 51 where it has none
abbrev pub place_of : ℕ → ℕ → Result ℕ Fault
place_of i n = cond (nat_le 1 i && nat_le i n) (Ok (i - 1)) (Err (fault_of rule.RowInTable i n))

-- release: 52 before the row's next release is due

abbrev pub admit : ℕ → ℕ → RowState → Result Unit Fault
admit i clock r = cond (nat_le r.next clock) (Ok tt) (Err (fault_of rule.PeriodPassed i (r.next - clock)))

abbrev pub release_answer : {S : Type 0} → ℕ → RunState S → Result Unit Fault
release_answer i st = and_then (place_of i (length st.rows)) (λ k. admit i st.clock (state_at st.rows k))

abbrev pub after_release : {S : Type 0} → ℕ → RunState S → RunState S
after_release i st = unless_refused (release_answer i st) (with_rows st (change (released i st.clock) (i - 1) st.rows)) st

-- end: 53 where the row has no job

abbrev pub age_of : ℕ → ℕ → Option Active → Result ℕ Fault
age_of i clock None = Err (fault_of rule.JobPending i 0)
age_of i clock (Some a) = Ok (clock - a.job.release)

abbrev pub end_answer : {S : Type 0} → ℕ → RunState S → Result ℕ Fault
end_answer i st = and_then (place_of i (length st.rows)) (λ k. age_of i st.clock (state_at st.rows k).active)

abbrev pub after_end : {S : Type 0} → ℕ → RunState S → RunState S
after_end i st = unless_refused (end_answer i st) (with_rows st (change cleared (i - 1) st.rows)) st

-- tick: 54 at the last clock; the supply is ticked, the first job runs if it grants, the clock rises, and what is due
-- then is struck off

abbrev pub last_clock : ℕ
last_clock = 4000000000

module _ {S : Type 0} (step : S → Bool → (Grant × S)) (goes : Goes) where
  -- the rows after the tick's work is credited, before any job is struck off
  abbrev pub credited : Bool → RunState S → List RowState
  credited offer st = served (step st.supply offer).0 (first goes st.rows) st.rows

  abbrev pub progressed : Bool → RunState S → Progress
  progressed offer st = progress (step st.supply offer).0 (first goes st.rows) (st.clock + 1)

  abbrev pub ticked : Bool → RunState S → Ticked
  ticked offer st = record {
    progress = progressed offer st;
    missed = missed (st.clock + 1) (credited offer st);
    lowest = lowest (st.clock + 1) (credited offer st);
  }

  abbrev pub tick_answer : Bool → RunState S → Result Ticked Fault
  tick_answer offer st = cond (nat_lt st.clock last_clock) (Ok (ticked offer st)) (Err (fault_of rule.ClockGoesOn 0 0))

  abbrev pub passed : Bool → RunState S → RunState S
  passed offer st = record {
    clock = st.clock + 1;
    supply = (step st.supply offer).1;
    rows = struck (st.clock + 1) (credited offer st);
    granted = st.granted + granted_one (progressed offer st);
    ran = st.ran + ran_one (progressed offer st);
    idle = st.idle + idle_one (progressed offer st);
  }

  abbrev pub after_tick : Bool → RunState S → RunState S
  after_tick offer st = unless_refused (tick_answer offer st) (passed offer st) st

-- look

abbrev pub look_answer : {S : Type 0} → RunState S → Looked
look_answer st = record { clock = st.clock; granted = st.granted; ran = st.ran; idle = st.idle }

-- pending: 55 where the list handed in is too short

abbrev pub pending_answer : {S : Type 0} → ℕ → RunState S → Result ℕ Fault
pending_answer room st =
    cond (nat_le (length (jobs_of st.rows)) room) (Ok (length (jobs_of st.rows))) (Err (fault_of rule.RoomForJobs (length (jobs_of st.rows)) room))

-- any call

abbrev pub replied : {A : Type 0} → (A → Reply) → Result A Fault → Reply
replied say (Ok x) = say x
replied say (Err f) = told.Refused f

module _ {S : Type 0} (step : S → Bool → (Grant × S)) (goes : Goes) where
  abbrev pub reply : Call → RunState S → Reply
  reply (call.Release i) st = replied (λ _. told.Released) (release_answer i st)
  reply (call.End i) st = replied told.Ended (end_answer i st)
  reply (call.Tick offer) st = replied told.Ticked (tick_answer step goes offer st)
  reply call.Look st = told.Looked (look_answer st)
  reply (call.Pending room) st = replied told.Pending (pending_answer room st)

  abbrev pub after : Call → RunState S → RunState S
  after (call.Release i) st = after_release i st
  after (call.End i) st = after_end i st
  after (call.Tick offer) st = after_tick step goes offer st
  after call.Look st = st
  after (call.Pending room) st = st

  -- the replies to a list of calls, and the state after them
  abbrev pub replies : List Call → RunState S → List Reply
  replies [] st = []
  replies (c ∷ cs) st = reply c st ∷ replies cs (after c st)

  abbrev pub after_all : List Call → RunState S → RunState S
  after_all [] st = st
  after_all (c ∷ cs) st = after_all cs (after c st)
