-- The rows that triples write. Assumes nothing.
use Rattle.std.proofs.Common.{◌≡◌, ℕ, ◌+◌, ◌-◌, ◌<◌, ◌≤◌, List, [], ◌∷◌, ◌++◌, map, length, get_or, take, drop, Ok, Result, sym, ap, ◌∙◌, subst, ap₂, arith}
use Rattle.std.proofs.lemmas.List.{take_all, take_more, length-take-le, length-map, map_push, get_or-map, get_or-take}
use Rattle.fault.specs.declared.fault.Fault.{Fault}
use Rattle.text.specs.declared.triple.Triple.{Triple}
use Rattle.text.specs.Reading.{table_read}
use Rattle.table.specs.declared.row.Row.{Row}
use Rattle.table.specs.Rows.{RowIs}
use Rattle.table.specs.Sums.{no_row}
use Rattle.report.specs.declared.task.Task.{Task}
use Rattle.report.specs.Tasks.{row_triple, RowsAre, SoundAt, no_triple, Asks, AsksAll, TaskRead}

same_triple : (a b : Triple) → a.first ≡ b.first → a.second ≡ b.second → a.third ≡ b.third → a ≡ b
same_triple a b p q r j = record { first = p j; second = q j; third = r j }

pub rows_count : (rs : List Row) (ts : List Triple) → RowsAre rs ts → length rs ≡ length ts
rows_count rs ts are = sym (length-map rs row_triple) ∙ ap length are

-- of the first i triples
module _ (rs : List Row) (ts : List Triple) (i : ℕ) (are : RowsAre rs (take i ts)) where
  pub front_count : i ≤ length ts → length rs ≡ i
  front_count within = rows_count rs (take i ts) are ∙ length-take-le i ts within

  -- one row more
  pub rows_more : i < length ts → (r : Row) → RowIs (get_or ts i no_triple).first (get_or ts i no_triple).second (get_or ts i no_triple).third r → (after : List Row) → after ≡ rs ++ r ∷ []
      → RowsAre after (take (i + 1) ts)
  rows_more lt r is after added =
      ap (map row_triple) added ∙ map_push row_triple rs r ∙ ap₂ (λ xs x. xs ++ x ∷ []) are (same_triple (row_triple r) (get_or ts i no_triple) is.0 is.1 is.2) ∙
      sym (take_more ts i no_triple lt)

  -- what a row writes is within its bounds
  pub rows_sound : i ≤ length ts → (j : ℕ) → j < i → SoundAt ts j
  rows_sound within j lt =
      let r : Row = get_or rs j no_row in
      let is : get_or ts j no_triple ≡ row_triple r =
      sym (get_or-take i ts j no_triple lt) ∙ ap (λ xs. get_or xs j no_triple) (sym are) ∙ get_or-map row_triple rs j no_row no_triple (omega (arith, front_count within)) in
      let first = ap (λ t. t.first) is in
      let second = ap (λ t. t.second) is in
      let third = ap (λ t. t.third) is in
      (omega arith, omega arith, omega arith, omega arith)

-- what the first triple and the others ask for is what their text asks for
pub asked : (bs : List ℕ) (ts held : List Triple) → Ok held ≡ table_read bs → ts ≡ held → 1 ≤ length ts → (r : Result Task Fault)
    → Asks (get_or ts 0 no_triple) (take (length ts - 1) (drop 1 ts)) r → TaskRead bs r
asked bs [] held read is some r asks = absurd (omega arith)
asked bs (head ∷ rows) held read is some r asks =
    let n : length (head ∷ rows) - 1 ≡ length rows = omega arith in
    let all : take (length (head ∷ rows) - 1) rows ≡ rows = ap (λ m. take m rows) n ∙ take_all (length rows) rows (omega arith) in
    subst (λ x. AsksAll x r) (ap Ok is ∙ read) (subst (λ xs. Asks head xs r) all asks)
