-- The report on a table text. Assumes nothing.
use Rattle.std.specs.Prelude.{◌≡◌, ℕ, ◌+◌, ◌*◌, ◌<◌, ◌≤◌, ◌⊎◌, List, [], ◌∷◌, ◌++◌, map, length, drop, Ok, Err, Result, slice_index}
use Rattle.std.specs.List.{range_with_len}
use Rattle.fault.specs.declared.fault.Fault.{Fault}
use Rattle.fault.specs.declared.rule.Rule.TheVariants.{RoomToWrite}
use Rattle.fault.specs.Rules.{fault_number, fault_of}
use Rattle.fault.specs.Steps.{map_ok}
use Rattle.text.specs.declared.triple.Triple.{Triple}
use Rattle.text.specs.Texts.{text_of}
use Rattle.supply.specs.Server.{server_bound}
use Rattle.table.specs.declared.row.Row.{Row}
use Rattle.table.specs.Sums.{row_at}
use Rattle.table.specs.Tables.{rows_of}
use Rattle.decision.specs.Responses.{responses_of}
use Rattle.report.specs.declared.task.Task.{Task}
use Rattle.report.specs.declared.verdict.Verdict.{Verdict}
use Rattle.report.specs.declared.verdict.Verdict.TheVariants.{Responses, Window}
use Rattle.report.specs.Tasks.{TaskRead}
use Rattle.report.specs.Verdicts.{Decided}

abbrev pub triple : ℕ → ℕ → ℕ → Triple
triple x y z = record { first = x; second = y; third = z }

-- a fault's number and place
abbrev pub fault_line : Fault → Triple
fault_line f = triple (fault_number f) f.place.0 f.place.1

-- row i, counted from 0: its number counted from 1, its response and its deadline
abbrev pub response_line : List Row → List ℕ → ℕ → Triple
response_line rs times i = triple (i + 1) (slice_index times i) (row_at rs i).deadline

-- 0, the row count and 0, and then a line for each row
abbrev pub response_lines : List Row → List ℕ → List Triple
response_lines rs times = triple 0 (length rs) 0 ∷ map (response_line rs times) (range_with_len 0 (length rs))

-- 0, the row count and the window
abbrev pub window_lines : List Row → ℕ → List Triple
window_lines rs l = triple 0 (length rs) l ∷ []

abbrev pub verdict_lines : List Row → Verdict → List Triple
verdict_lines rs (Responses r) = response_lines rs (responses_of r)
verdict_lines rs (Window l) = window_lines rs l

-- what is said of a task: the lines of the decision on it, or the fault of whatever refused
abbrev pub Said : Result Task Fault → Result (List Triple) Fault → Type 0
Said (Ok task) said = (v : Result Verdict Fault)
    × Decided task.policy (rows_of task.table) (server_bound task.server) v
    × (said ≡ map_ok (verdict_lines (rows_of task.table)) v)
Said (Err f) said = said ≡ Err f

-- what is said on a text: what is said of the task that it asks for
abbrev pub Judged : List ℕ → Result (List Triple) Fault → Type 0
Judged bs said = (task : Result Task Fault) × TaskRead bs task × Said task said

-- a fault is told in one line
abbrev pub report_lines : Result (List Triple) Fault → List Triple
report_lines (Ok ts) = ts
report_lines (Err f) = fault_line f ∷ []

-- the report's bytes stand in front, and the bytes beyond them are as they were
abbrev pub Written : List ℕ → List ℕ → List ℕ → ℕ → Type 0
Written bs before after n = (said : Result (List Triple) Fault) × Judged bs said × (n ≡ 25 * length (report_lines said))
    × (after ≡ text_of (report_lines said) ++ drop n before)

-- with room for 425 bytes a report of 1 to 17 lines is written; else it is refused with 15, and nothing is written
abbrev pub Reported : List ℕ → List ℕ → List ℕ → Result ℕ Fault → Type 0
Reported bs before after (Ok n) = (425 ≤ length before) × (25 ≤ n) × (n ≤ 425) × Written bs before after n
Reported bs before after (Err f) = (length before < 425) × (after ≡ before) × (f ≡ fault_of RoomToWrite 0 (length before))

-- the same as a number: no report has 0 bytes
abbrev pub Exported : List ℕ → List ℕ → List ℕ → ℕ → Type 0
Exported bs before after n = Reported bs before after (Ok n) ⊎ ((length before < 425) × (after ≡ before) × (n ≡ 0))
