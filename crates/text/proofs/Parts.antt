-- The three fields and the line feed of a line, and what it is read as. Assumes nothing.
use Rattle.std.proofs.Common.{◌≡◌, ℕ, eqb, List, [], ◌∷◌, ◌++◌, length, get_or, take, drop, Some, Ok, sym, ap, ◌∙◌, arith}
use Rattle.std.proofs.lemmas.List.{drop_all, drop_at, drop-drop, drop_more, get_or-drop, length-append, take-append-drop, take_at}
use Rattle.std.proofs.lemmas.Bool.{cond-true, eq-eqb, eqb-true}
use Rattle.std.proofs.lemmas.Bool.Decides.{nat_tests}
use Rattle.text.specs.declared.triple.Triple.{Triple}
use Rattle.text.specs.Fields.{Reads, field_of, field_read}
use Rattle.text.specs.Texts.{Fitting, line_of}
use Rattle.text.specs.Reading.{fields_read, line_read}
use Rattle.text.proofs.Fields.{field_read_of, length_field, reads_field}
use Rattle.text.proofs.Steps.{passed}

-- where each part of a line stands
record Parts (a b c bs : List ℕ) : Type 0 where
  all : length bs ≡ 25
  one : take 8 bs ≡ a
  two : take 8 (drop 8 bs) ≡ b
  three : take 8 (drop 16 bs) ≡ c
  feed : get_or bs 24 0 ≡ 10

parts : (a b c : List ℕ) → length a ≡ 8 → length b ≡ 8 → length c ≡ 8 → Parts a b c (a ++ (b ++ (c ++ (10 ∷ []))))
parts a b c la lb lc =
    let bs : List ℕ = a ++ (b ++ (c ++ (10 ∷ []))) in
    let eight : drop 8 bs ≡ b ++ (c ++ (10 ∷ [])) = drop_at a _ 8 la in
    let sixteen : drop 16 bs ≡ c ++ (10 ∷ []) = sym (drop-drop 8 8 bs) ∙ ap (drop 8) eight ∙ drop_at b _ 8 lb in
    let last : drop 24 bs ≡ 10 ∷ [] = sym (drop-drop 8 16 bs) ∙ ap (drop 8) sixteen ∙ drop_at c _ 8 lc in
    record {
      all = length-append a (b ++ (c ++ (10 ∷ []))) ∙ omega (arith, length-append b (c ++ (10 ∷ [])), length-append c (10 ∷ []));
      one = take_at a _ 8 la;
      two = ap (take 8) eight ∙ take_at b _ 8 lb;
      three = ap (take 8) sixteen ∙ take_at c _ 8 lc;
      feed = sym (get_or-drop 24 bs 0 0) ∙ ap (λ xs. get_or xs 0 0) last;
    }

parts_line : (t : Triple) → Fitting t → Parts (field_of t.first) (field_of t.second) (field_of t.third) (line_of t)
parts_line t fits =
    parts (field_of t.first) (field_of t.second) (field_of t.third) (length_field t.first fits.0) (length_field t.second fits.1) (length_field t.third fits.2)

pub length_line : (t : Triple) → Fitting t → length (line_of t) ≡ 25
length_line t fits = (parts_line t fits).all

-- 25 bytes that end with a line feed are made of these parts
joins : (bs : List ℕ) → length bs ≡ 25 → get_or bs 24 0 ≡ 10 → take 8 bs ++ (take 8 (drop 8 bs) ++ (take 8 (drop 16 bs) ++ (10 ∷ []))) ≡ bs
joins bs all feed =
    let last : drop 24 bs ≡ 10 ∷ [] = drop_more bs 24 0 (omega arith) ∙ ap (λ x. x ∷ drop 25 bs) feed ∙ ap (λ xs. 10 ∷ xs) (drop_all 25 bs (omega arith)) in
    let sixteen : take 8 (drop 16 bs) ++ (10 ∷ []) ≡ drop 16 bs = ap (λ xs. take 8 (drop 16 bs) ++ xs) (sym last ∙ sym (drop-drop 8 16 bs)) ∙ take-append-drop 8 (drop 16 bs) in
    let eight : take 8 (drop 8 bs) ++ (take 8 (drop 16 bs) ++ (10 ∷ [])) ≡ drop 8 bs =
    ap (λ xs. take 8 (drop 8 bs) ++ xs) (sixteen ∙ sym (drop-drop 8 8 bs)) ∙ take-append-drop 8 (drop 8 bs) in
    ap (λ xs. take 8 bs ++ xs) eight ∙ take-append-drop 8 bs

fields_join : (bs : List ℕ) (i x y z : ℕ) → field_read (take 8 bs) ≡ Some x → field_read (take 8 (drop 8 bs)) ≡ Some y → field_read (take 8 (drop 16 bs)) ≡ Some z → fields_read bs i ≡ Ok (record { first = x; second = y; third = z })
fields_join bs i x y z one two three = rw (one, two, three)

-- a triple's line is read as the triple
pub line_read_of : (t : Triple) (i : ℕ) → Fitting t → line_read (line_of t) i ≡ Ok t
line_read_of t i fits =
    let p = parts_line t fits in
    cond-true _ _ _ (eq-eqb _ 10 p.feed) ∙
    fields_join (line_of t) i t.first t.second t.third (ap field_read p.one ∙ field_read_of t.first fits.0) (ap field_read p.two ∙ field_read_of t.second fits.1)
    (ap field_read p.three ∙ field_read_of t.third fits.2)

-- where three fields gave a triple, each gave its number
fields_split : (bs : List ℕ) (i : ℕ) (t : Triple) → fields_read bs i ≡ Ok t → (field_read (take 8 bs) ≡ Some t.first) × (field_read (take 8 (drop 8 bs)) ≡ Some t.second) × (field_read (take 8 (drop 16 bs)) ≡ Some t.third)
fields_split bs i t read = grind (arith, nat_tests)

pub spelt : (bs : List ℕ) (n : ℕ) → field_read bs ≡ Some n → Reads bs (Some n)
spelt bs n e = grind (arith, reads_field)

-- a line that is read as a triple is the triple's
pub line_spells : (bs : List ℕ) (i : ℕ) (t : Triple) → length bs ≡ 25 → line_read bs i ≡ Ok t → (line_of t ≡ bs) × Fitting t
line_spells bs i t all read =
    let fed = passed (eqb (get_or bs 24 0) 10) (fields_read bs i) _ t read in
    let got = fields_split bs i t fed.1 in
    let one = spelt (take 8 bs) t.first got.0 in
    let two = spelt (take 8 (drop 8 bs)) t.second got.1 in
    let three = spelt (take 8 (drop 16 bs)) t.third got.2 in
    (rw (← one.1, ← two.1, ← three.1) (joins bs all (eqb-true (get_or bs 24 0) 10 fed.0)), (one.0, two.0, three.0))
