-- Whatever is said on a text can be written: in 1 to 17 lines, with numbers that fit. Assumes nothing.
use Rattle.std.proofs.Common.{◌≡◌, ℕ, ◌+◌, ◌<◌, ◌≤◌, List, [], ◌∷◌, map, length, Ok, Err, Result, sym, refl, subst, inl, inr, arith}
use Rattle.std.specs.List.{range_with_len}
use Rattle.std.proofs.lemmas.List.FromFn.{length-map-range_with_len, get_or-map-range_with_len}
use Rattle.std.proofs.ByRecursion.{All-from_get_or}
use Rattle.fault.specs.declared.fault.Fault.{Fault}
use Rattle.fault.specs.declared.rule.Rule.{Rule}
use Rattle.fault.specs.declared.rule.Rule.TheVariants as rule
use Rattle.fault.specs.Rules.{fault_of, rule_number}
use Rattle.fault.specs.Steps.{map_ok}
use Rattle.text.specs.declared.triple.Triple.{Triple}
use Rattle.text.specs.Fields.{Fits}
use Rattle.text.specs.Texts.{Fitting, SpellsTable}
use Rattle.text.specs.Reading.{table_read, Printable, PrintableRefusal}
use Rattle.text.specs.Writing.{Writable}
use Rattle.text.proofs.Refusals.{table_printable}
use Rattle.text.proofs.Spellings.{told_table}
use Rattle.table.specs.declared.row.Row.{Row}
use Rattle.table.specs.Sums.{row_at}
use Rattle.table.specs.Tables.{rows_of}
use Rattle.decision.specs.Decisions.{Prioritised, Scheduled}
use Rattle.decision.specs.Responses.{responses_of}
use Rattle.text.specs.declared.policy.Policy.{Policy}
use Rattle.text.specs.declared.policy.Policy.TheVariants.{FixedPriority, EarliestDeadline}
use Rattle.report.specs.declared.task.Task.{Task}
use Rattle.report.specs.declared.verdict.Verdict.{Verdict}
use Rattle.report.specs.declared.verdict.Verdict.TheVariants.{Responses, Window}
use Rattle.report.specs.Tasks.{Asks, AsksAll, no_triple}
use Rattle.report.specs.Verdicts.{Decided}
use Rattle.report.specs.Answers.{response_line, response_lines, verdict_lines, report_lines, Said, Judged}
use Rattle.report.proofs.Rows.{rows_count}

-- it can be written into the shortest list that a report may be given
abbrev pub Reportable : List Triple → Type 0
Reportable ts = Writable ts 425

-- a fault that can be printed is one line
fault_reportable : (f : Fault) → Printable f → Reportable (report_lines (Err f))
fault_reportable f p = record { roomy = omega arith; some = omega arith; few = omega arith; fits = (p, tt) }

place_printable : (broken : Rule) (first second : ℕ) → Fits (rule_number broken) → Fits first → Fits second → (f : Fault) → f ≡ fault_of broken first second → Printable f
place_printable broken first second n a b f is = subst Printable (sym is) (n, a, b)

-- the decisions' faults and verdicts

priority_printable : (rs : List Row) (B : ℕ → ℕ) (f : Fault) → length rs ≤ 16 → Prioritised rs B (Err f) → Printable f
priority_printable rs B f few (i, lt, before, none, is) =
    let r : Row = row_at rs i in
    place_printable rule.RowInTime (i + 1) r.deadline (omega arith) (omega arith) (omega arith) f is

schedule_printable : (rs : List Row) (B : ℕ → ℕ) (f : Fault) → Scheduled rs B (Err f) → Printable f
schedule_printable rs B f (inl (none, is)) = place_printable rule.WindowCloses 0 1000000 (omega arith) (omega arith) (omega arith) f is
schedule_printable rs B f (inr (l, t, window, below, overload, is)) =
    place_printable rule.NoOverload 0 t (omega arith) (omega arith) (omega (arith, window.to)) f is

responses_reportable : (rs : List Row) (B : ℕ → ℕ) (times : List ℕ) → length rs ≤ 16 → Prioritised rs B (Ok times) → Reportable (response_lines rs times)
responses_reportable rs B times few (count, responses) =
    let f : ℕ → Triple = response_line rs times in
    let n = length-map-range_with_len f 0 (length rs) in
    let line : (i : ℕ) → i < length rs → Fitting (f i) = λ i lt.
    (let r : Row = row_at rs i in let response = responses i lt in (omega arith, omega (arith, response.to), omega arith)) in
    record {
      roomy = omega arith;
      some = omega arith;
      few = omega (arith, n);
      fits = (
        (omega arith, omega arith, omega arith),
        All-from_get_or Fitting (map f (range_with_len 0 (length rs))) no_triple
            (λ i lt. subst Fitting (sym (get_or-map-range_with_len f 0 (length rs) i i no_triple (omega (arith, n)) (omega arith))) (line i (omega (arith, n)))),
      );
    }

verdict_reportable : (policy : Policy) (rs : List Row) (B : ℕ → ℕ) (v : Result Verdict Fault) → length rs ≤ 16 → Decided policy rs B v
    → (said : Result (List Triple) Fault) → said ≡ map_ok (verdict_lines rs) v → Reportable (report_lines said)
verdict_reportable FixedPriority rs B (Ok (Responses r)) few decided said is =
    subst (λ s. Reportable (report_lines s)) (sym is) (responses_reportable rs B (responses_of r) few decided)
verdict_reportable FixedPriority rs B (Ok (Window l)) few decided said is = absurd decided
verdict_reportable FixedPriority rs B (Err f) few decided said is =
    subst (λ s. Reportable (report_lines s)) (sym is) (fault_reportable f (priority_printable rs B f few decided))
verdict_reportable EarliestDeadline rs B (Ok (Responses r)) few decided said is = absurd decided
verdict_reportable EarliestDeadline rs B (Ok (Window l)) few decided said is =
    subst (λ s. Reportable (report_lines s)) (sym is)
    (record { roomy = omega arith; some = omega arith; few = omega arith; fits = ((omega arith, omega arith, omega (arith, decided.0.to)), tt) })
verdict_reportable EarliestDeadline rs B (Err f) few decided said is =
    subst (λ s. Reportable (report_lines s)) (sym is) (fault_reportable f (schedule_printable rs B f decided))

-- what is said of a text's triples

spelled_reportable : (bs : List ℕ) (head : Triple) (rows : List Triple) → SpellsTable (head ∷ rows) bs → (task : Result Task Fault) → Asks head rows task
    → (said : Result (List Triple) Fault) → Said task said → Reportable (report_lines said)
spelled_reportable bs head rows spells (Err f) (inl (out, is)) said told =
    let fits = spells.0.fits.0 in
    subst (λ s. Reportable (report_lines s)) (sym told) (fault_reportable f (place_printable rule.Reservation head.second head.third (omega arith) fits.1 fits.2 f is))
spelled_reportable bs head rows spells (Err f) (inr (range, (i, lt, before, broken, is))) said told =
    subst (λ s. Reportable (report_lines s)) (sym told) (fault_reportable f (place_printable rule.RowBounds (i + 1) 0 (omega arith) (omega (arith, spells.0.few)) (omega arith) f is))
spelled_reportable bs head rows spells (Ok task) (policy, server, are) said (v, decided, is) =
    verdict_reportable task.policy (rows_of task.table) _ v (omega (arith, rows_count (rows_of task.table) rows are, spells.0.few)) decided said is

text_reportable : (bs : List ℕ) (read : Result (List Triple) Fault) → table_read bs ≡ read → (task : Result Task Fault) → AsksAll read task
    → (said : Result (List Triple) Fault) → Said task said → Reportable (report_lines said)
text_reportable bs (Ok []) e task asks said told = absurd asks
text_reportable bs (Ok (head ∷ rows)) e task asks said told = spelled_reportable bs head rows (told_table bs (Ok (head ∷ rows)) e) task asks said told
text_reportable bs (Err f) e task asks said told =
    let printable : Printable f = subst (λ (r : Result (List Triple) Fault). PrintableRefusal r) e (table_printable bs) in
    let passed : Said (Err f) said = subst (λ t. Said t said) asks told in
    subst (λ s. Reportable (report_lines s)) (sym passed) (fault_reportable f printable)

pub judged_reportable : (bs : List ℕ) (said : Result (List Triple) Fault) → Judged bs said → Reportable (report_lines said)
judged_reportable bs said (task, read, told) = text_reportable bs (table_read bs) refl task read said told
