-- The response of one row, in the words of the decisions. Assumes nothing.
use Rattle.std.proofs.Common.{◌≡◌, ℕ, ◌+◌, ◌<◌, ◌≤◌, List, [], ◌∷◌, ◌++◌, length, get_or, take, Some, None, Ok, Err, Option, Result, sym, refl, ap, ◌∙◌, subst, arith}
use Rattle.std.specs.Option.{ok_or}
use Rattle.std.proofs.lemmas.List.{get_or_default, get_or_append_left, get_or_push}
use native.Mathlib.Decide.{dec_lt}
use Rattle.fault.specs.declared.fault.Fault.{Fault}
use Rattle.fault.specs.declared.rule.Rule.TheVariants.{RowInTime}
use Rattle.fault.specs.Rules.{fault_of}
use Rattle.table.specs.declared.row.Row.{Row}
use Rattle.table.specs.Sums.{requested, workload, no_row, row_at}
use Rattle.decision.specs.Least.{Found}
use Rattle.decision.proofs.Widen.{found_same}
use Rattle.decision.specs.Decisions.{Response, NoResponse, miss_fault}

-- row i's response, or that it has none
abbrev pub Responds : List Row → (ℕ → ℕ) → ℕ → Result ℕ Fault → Type 0
Responds rs B i (Ok t) = Response rs B i t
Responds rs B i (Err f) = NoResponse rs B i × (f ≡ miss_fault rs i)

responds_at : (rs : List Row) (B : ℕ → ℕ) (i : ℕ) (o : Option ℕ) → Found (λ t. workload rs i t ≤ B t) 1 (row_at rs i).deadline o → Responds rs B i (ok_or o (miss_fault rs i))
responds_at rs B i (Some t) found = found
responds_at rs B i None none = (none, refl)

-- the search over a row's own cost and what the rows before it release is the search over its workload
pub responds : (rs rows : List Row) (B : ℕ → ℕ) (i : ℕ) (row : Row) (o : Option ℕ) (r : Result ℕ Fault) → rows ≡ rs → row ≡ get_or rows i row → i < length rows
    → Found (λ t. row.cost + requested (take i rows) t ≤ B t + 0) 1 row.deadline o → r ≡ ok_or o (fault_of RowInTime (i + 1) row.deadline) → Responds rs B i r
unfolding workload
responds rs rows B i row o r same is lt found told =
    let at : row ≡ row_at rs i = is ∙ get_or_default rows i row no_row lt ∙ ap (λ xs. row_at xs i) same in
    let there : Found (λ t. row.cost + requested (take i rs) t ≤ B t) 1 row.deadline o =
    found_same (λ t. row.cost + requested (take i rs) t ≤ B t + 0) _ (λ t h. omega arith) (λ t h. omega arith) 1 row.deadline o
    (subst (λ xs. Found (λ t. row.cost + requested (take i xs) t ≤ B t + 0) 1 row.deadline o) same found) in
    subst (Responds rs B i) (sym (told ∙ ap (λ (r : Row). ok_or o (fault_of RowInTime (i + 1) r.deadline)) at))
    (responds_at rs B i o (subst (λ (r : Row). Found (λ t. r.cost + requested (take i rs) t ≤ B t) 1 r.deadline o) at there))

-- the responses of the first rows, with one row more
pub responses_more : (rs : List Row) (B : ℕ → ℕ) (times : List ℕ) (i t : ℕ) → length times ≡ i → ((k : ℕ) → k < i → Response rs B k (get_or times k 0)) → Response rs B i t
    → (k : ℕ) → k < i + 1 → Response rs B k (get_or (times ++ t ∷ []) k 0)
responses_more rs B times i t n before one k lt =
    elim (dec_lt k i) [
      | yes q ↦ subst (Response rs B k) (sym (get_or_append_left times (t ∷ []) 0 k (omega arith))) (before k q)
      | no q ↦
          let e : i ≡ k = omega arith in
          subst (λ m. Response rs B m (get_or (times ++ t ∷ []) m 0)) e (subst (Response rs B i) (sym (get_or_push times t 0 i n)) one)
    ]
