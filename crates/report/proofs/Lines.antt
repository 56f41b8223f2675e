-- The lines of rows and their responses, one after another. Assumes nothing.
use Rattle.std.proofs.Common.{◌≡◌, ℕ, suc, ◌+◌, ◌<◌, ◌≤◌, ◌⊎◌, List, [], ◌∷◌, ◌++◌, map, length, get_or, drop, sym, ap, ◌∙◌, ap₂, ⊎_elim, length-drop, drop-cons, add-one, arith}
use Rattle.std.specs.List.{range_with_len}
use Rattle.std.proofs.lemmas.List.FromFn.{length-map-range_with_len, map-range_with_len_more}
use Rattle.text.specs.declared.triple.Triple.{Triple}
use Rattle.table.specs.declared.row.Row.{Row}
use Rattle.table.specs.Sums.{no_row}
use Rattle.report.specs.Answers.{triple, response_line, response_lines}

-- what is left of a list from i on begins with its element i
drop_next : {X : Type 0} (xs : List X) (i : ℕ) (x : X) (rest : List X) (d : X) → drop i xs ≡ x ∷ rest → (i < length xs) × (x ≡ get_or xs i d) × (rest ≡ drop (i + 1) xs)
drop_next xs i x rest d e =
    let lt : i < length xs = omega (arith, ap length e, length-drop i xs) in
    let next : x ∷ rest ≡ get_or xs i d ∷ drop (suc i) xs = sym e ∙ drop-cons xs i d lt in
    (lt, ap (λ l. get_or l 0 d) next, ap (drop 1) next ∙ ap (λ n. drop n xs) (sym (add-one i)))

-- the lines of the first i rows, and then what is left of the rows and of the responses
pub record LinesTo (rs : List Row) (times : List ℕ) (i : ℕ) (lines : List Triple) (rows : List Row) (responses : List ℕ) : Type 0 where
  pub told : lines ≡ triple 0 (length rs) 0 ∷ map (response_line rs times) (range_with_len 0 i)
  pub within : i ≤ length rs
  pub next_rows : rows ≡ drop i rs
  pub next_responses : responses ≡ drop i times

-- one row more
pub lines_more : (rs : List Row) (times : List ℕ) (i : ℕ) (lines : List Triple) (row : Row) (rows : List Row) (response : ℕ) (responses : List ℕ) → LinesTo rs times i lines (row ∷ rows) (response ∷ responses)
    → LinesTo rs times (i + 1) (lines ++ triple (i + 1) response row.deadline ∷ []) rows responses
lines_more rs times i lines row rows response responses so =
    let f : ℕ → Triple = response_line rs times in
    let r = drop_next rs i row rows no_row (sym so.next_rows) in
    let t = drop_next times i response responses 0 (sym so.next_responses) in
    let line : triple (i + 1) response row.deadline ≡ f i = ap₂ (λ (x y : ℕ). triple (i + 1) x y) t.1 (ap (λ (r : Row). r.deadline) r.1) in
    record {
      told = ap₂ (λ ls l. ls ++ l ∷ []) so.told line ∙ ap (λ xs. triple 0 (length rs) 0 ∷ xs) (sym (map-range_with_len_more f 0 i i (omega arith)));
      within = omega (arith, r.0);
      next_rows = r.2;
      next_responses = t.2;
    }

-- the next line has room
pub lines_room : (rs : List Row) (times : List ℕ) (i : ℕ) (lines : List Triple) (row : Row) (rows : List Row) (responses : List ℕ) → LinesTo rs times i lines (row ∷ rows) responses → length rs ≤ 16 → length lines ≡ 17
    → ⊥
lines_room rs times i lines row rows responses so few full =
    omega (arith, (drop_next rs i row rows no_row (sym so.next_rows)).0, ap length so.told, length-map-range_with_len (response_line rs times) 0 i)

-- no row is left
pub lines_all : (rs : List Row) (times : List ℕ) (i : ℕ) (lines : List Triple) (rows : List Row) (responses : List ℕ) → LinesTo rs times i lines rows responses → length times ≡ length rs
    → (length rows ≡ 0) ⊎ (length responses ≡ 0) → lines ≡ response_lines rs times
lines_all rs times i lines rows responses so same none =
    let all : i ≡ length rs =
    ⊎_elim (λ r. omega (arith, so.within, ap length so.next_rows, length-drop i rs)) (λ t. omega (arith, so.within, ap length so.next_responses, length-drop i times)) none in
    so.told ∙ ap (λ m. triple 0 (length rs) 0 ∷ map (response_line rs times) (range_with_len 0 m)) all
