-- A text has one report at most. Assumes nothing.
use Rattle.std.proofs.Common.{◌≡◌, ℕ, ◌+◌, ◌<◌, ◌≤◌, List, [], ◌∷◌, map, length, Ok, Err, Result, sym, refl, ap, ◌∙◌, subst, ap₂, inl, inr, arith}
use mathlib.Core.HLevel.{is_prop→PathP}
use native.Mathlib.Bridge.{le_prop}
use Rattle.std.proofs.lemmas.List.{take_all}
use Rattle.arith.proofs.Orders.{neither_below}
use Rattle.fault.specs.declared.fault.Fault.{Fault}
use Rattle.fault.specs.declared.rule.Rule.TheVariants as rule
use Rattle.fault.specs.Rules.{fault_of}
use Rattle.fault.specs.Steps.{map_ok}
use Rattle.text.specs.declared.triple.Triple.{Triple}
use Rattle.text.specs.Reading.{table_read}
use Rattle.supply.specs.Periodic.{periodic_bound}
use Rattle.supply.specs.Server.{server_bound}
use Rattle.table.specs.declared.row.Row.{Row}
use Rattle.table.specs.Tables.{rows_of}
use Rattle.decision.specs.Decisions.{Prioritised, Scheduled}
use Rattle.decision.specs.Responses.{responses_of}
use Rattle.decision.proofs.Unique.{one_priority, one_schedule}
use Rattle.text.specs.declared.policy.Policy.{Policy}
use Rattle.text.specs.declared.policy.Policy.TheVariants.{FixedPriority, EarliestDeadline}
use Rattle.report.specs.declared.task.Task.{Task}
use Rattle.report.specs.declared.verdict.Verdict.{Verdict}
use Rattle.report.specs.declared.verdict.Verdict.TheVariants.{Responses, Window}
use Rattle.text.specs.Policies.{policy_number}
use Rattle.report.specs.Tasks.{row_triple, RowsAre, SoundAt, FirstBroken, Asks, AsksAll}
use Rattle.report.specs.Verdicts.{Decided}
use Rattle.report.specs.Answers.{response_lines, window_lines, verdict_lines, Said}
use Rattle.report.specs.Determined.{OneReport}
use Rattle.report.proofs.Rows.{rows_sound}

-- the same numbers make the same row, and so the same rows and the same policy

same_row : (a b : Row) → a.cost ≡ b.cost → a.period ≡ b.period → a.deadline ≡ b.deadline → a ≡ b
same_row a b c t d j = record {
  cost = c j;
  period = t j;
  deadline = d j;
  work = (is_prop→PathP (λ k. 1 ≤ c k) (λ k. le_prop) a.work.0 b.work.0 j, is_prop→PathP (λ k. c k ≤ d k) (λ k. le_prop) a.work.1 b.work.1 j);
  time = (is_prop→PathP (λ k. d k ≤ t k) (λ k. le_prop) a.time.0 b.time.0 j, is_prop→PathP (λ k. t k ≤ 100000) (λ k. le_prop) a.time.1 b.time.1 j);
}

same_rows : (rs qs : List Row) → map row_triple rs ≡ map row_triple qs → rs ≡ qs
same_rows [] [] e = refl
same_rows [] (q ∷ qs) e = absurd (omega (arith, ap length e))
same_rows (r ∷ rs) [] e = absurd (omega (arith, ap length e))
same_rows (r ∷ rs) (q ∷ qs) e =
    let head : row_triple r ≡ row_triple q = cc in
    let rest : map row_triple rs ≡ map row_triple qs = cc in
    ap₂ ◌∷◌ (same_row r q (ap (λ t. t.first) head) (ap (λ t. t.second) head) (ap (λ t. t.third) head)) (same_rows rs qs rest)

same_policy : (p q : Policy) → policy_number p ≡ policy_number q → p ≡ q
same_policy FixedPriority FixedPriority e = refl
same_policy FixedPriority EarliestDeadline e = absurd (omega arith)
same_policy EarliestDeadline FixedPriority e = absurd (omega arith)
same_policy EarliestDeadline EarliestDeadline e = refl

-- rows that triples write break no bounds

all_sound : (rs : List Row) (ts : List Triple) → RowsAre rs ts → (j : ℕ) → j < length ts → SoundAt ts j
all_sound rs ts are j lt = rows_sound rs ts (length ts) (are ∙ sym (take_all (length ts) ts (omega arith))) (omega arith) j lt

none_broken : (rs : List Row) (ts : List Triple) (f : Fault) → RowsAre rs ts → FirstBroken ts f → ⊥
none_broken rs ts f are (i, lt, before, broken, is) = broken (all_sound rs ts are i lt)

same_broken : (ts : List Triple) (f g : Fault) → FirstBroken ts f → FirstBroken ts g → f ≡ g
same_broken ts f g (i, i_lt, i-before, i-broken, f-is) (j, j-lt, j-before, j-broken, g-is) =
    f-is ∙ ap {B = Fault} (λ k. fault_of rule.RowBounds (k + 1) 0) (neither_below i j (λ h. i-broken (j-before i h)) (λ h. j-broken (i-before j h))) ∙ sym g-is

-- a decision is said in one way

same_priority : (rs : List Row) (B : ℕ → ℕ) (v w : Result (List ℕ) Fault) → Prioritised rs B v → Prioritised rs B w → map_ok (response_lines rs) v ≡ map_ok (response_lines rs) w
same_priority rs B v w x y = ap (map_ok (response_lines rs)) (one_priority rs B v w x y)

same_schedule : (rs : List Row) (B : ℕ → ℕ) (v w : Result ℕ Fault) → Scheduled rs B v → Scheduled rs B w → map_ok (window_lines rs) v ≡ map_ok (window_lines rs) w
same_schedule rs B v w x y = ap (map_ok (window_lines rs)) (one_schedule rs B v w x y)

same_said : (p : Policy) (rs : List Row) (B : ℕ → ℕ) (v w : Result Verdict Fault) → Decided p rs B v → Decided p rs B w → map_ok (verdict_lines rs) v ≡ map_ok (verdict_lines rs) w
same_said FixedPriority rs B (Ok (Responses r)) (Ok (Responses s)) x y = same_priority rs B (Ok (responses_of r)) (Ok (responses_of s)) x y
same_said FixedPriority rs B (Ok (Responses r)) (Ok (Window l)) x y = absurd y
same_said FixedPriority rs B (Ok (Responses r)) (Err g) x y = same_priority rs B (Ok (responses_of r)) (Err g) x y
same_said FixedPriority rs B (Ok (Window l)) w x y = absurd x
same_said FixedPriority rs B (Err f) (Ok (Responses s)) x y = same_priority rs B (Err f) (Ok (responses_of s)) x y
same_said FixedPriority rs B (Err f) (Ok (Window l)) x y = absurd y
same_said FixedPriority rs B (Err f) (Err g) x y = same_priority rs B (Err f) (Err g) x y
same_said EarliestDeadline rs B (Ok (Responses r)) w x y = absurd x
same_said EarliestDeadline rs B (Ok (Window l)) (Ok (Responses s)) x y = absurd y
same_said EarliestDeadline rs B (Ok (Window l)) (Ok (Window m)) x y = same_schedule rs B (Ok l) (Ok m) x y
same_said EarliestDeadline rs B (Ok (Window l)) (Err g) x y = same_schedule rs B (Ok l) (Err g) x y
same_said EarliestDeadline rs B (Err f) (Ok (Responses s)) x y = absurd y
same_said EarliestDeadline rs B (Err f) (Ok (Window m)) x y = same_schedule rs B (Err f) (Ok m) x y
same_said EarliestDeadline rs B (Err f) (Err g) x y = same_schedule rs B (Err f) (Err g) x y

-- what the same triples ask for is said in one way

same_asked : (head : Triple) (rows : List Triple) (s t : Result Task Fault) → Asks head rows s → Asks head rows t → (a b : Result (List Triple) Fault) → Said s a → Said t b → a ≡ b
same_asked head rows (Ok s) (Ok t) (s-policy, s-server, s-rows) (t-policy, t-server, t-rows) a b (v, v-decided, a-is) (w, w-decided, b-is) =
    let q : ℕ = head.second in
    let p : ℕ = head.third in
    let policy : t.policy ≡ s.policy = same_policy t.policy s.policy (t-policy ∙ sym s-policy) in
    let rows_same : rows_of t.table ≡ rows_of s.table = same_rows (rows_of t.table) (rows_of s.table) (t-rows ∙ sym s-rows) in
    let s_bound : server_bound s.server ≡ periodic_bound q p = ap server_bound s-server.1 in
    let t_bound : server_bound t.server ≡ periodic_bound q p = ap server_bound t-server.1 in
    let there : Decided s.policy (rows_of s.table) (server_bound s.server) w =
    subst (λ x. Decided x (rows_of s.table) (server_bound s.server) w) policy
    (subst (λ x. Decided t.policy x (server_bound s.server) w) rows_same (subst (λ x. Decided t.policy (rows_of t.table) x w) (t_bound ∙ sym s_bound) w-decided)) in
    a-is ∙ same_said s.policy (rows_of s.table) (server_bound s.server) v w v-decided there ∙ sym (b-is ∙ ap (λ x. map_ok (verdict_lines x) w) rows_same)
same_asked head rows (Ok s) (Err g) x (inl (out, is)) a b m n = absurd (out x.1.0)
same_asked head rows (Ok s) (Err g) x (inr (range, broken)) a b m n = absurd (none_broken (rows_of s.table) rows g x.2 broken)
same_asked head rows (Err f) (Ok t) (inl (out, is)) y a b m n = absurd (out y.1.0)
same_asked head rows (Err f) (Ok t) (inr (range, broken)) y a b m n = absurd (none_broken (rows_of t.table) rows f y.2 broken)
same_asked head rows (Err f) (Err g) (inl x) (inl y) a b m n = m ∙ ap Err (x.1 ∙ sym y.1) ∙ sym n
same_asked head rows (Err f) (Err g) (inl x) (inr y) a b m n = absurd (x.0 y.0)
same_asked head rows (Err f) (Err g) (inr x) (inl y) a b m n = absurd (y.0 x.0)
same_asked head rows (Err f) (Err g) (inr x) (inr y) a b m n = m ∙ ap Err (same_broken rows f g x.1 y.1) ∙ sym n

same_answer : (read : Result (List Triple) Fault) (s t : Result Task Fault) → AsksAll read s → AsksAll read t → (a b : Result (List Triple) Fault) → Said s a → Said t b → a ≡ b
same_answer (Ok []) s t x y a b m n = absurd x
same_answer (Ok (head ∷ rows)) s t x y a b m n = same_asked head rows s t x y a b m n
same_answer (Err f) s t x y a b m n =
    let left : a ≡ Err f = subst (λ r. Said r a) x m in
    let right : b ≡ Err f = subst (λ r. Said r b) y n in
    left ∙ sym right

pub one_report : OneReport
one_report bs a b (s, s_read, a-said) (t, t-read, b-said) = same_answer (table_read bs) s t s_read t-read a b a-said b-said
