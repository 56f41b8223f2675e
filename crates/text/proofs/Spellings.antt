-- A text is read as just the triples that it spells. Assumes nothing.
use Rattle.std.proofs.Common.{◌≡◌, ℕ, zero, suc, ◌*◌, ◌/◌, ◌%◌, ◌<◌, ◌≤◌, true, List, [], ◌∷◌, ◌++◌, length, take, drop, Ok, Err, Result, sym, refl, ap, ◌∙◌, subst, arith}
use Rattle.std.specs.List.{AllByRecursion}
use Rattle.std.proofs.lemmas.List.{drop_at, length-append, length-drop, length-take-le, nil_from_length, take-append-drop, take_at}
use Rattle.std.proofs.lemmas.Bool.Decides.{nat_tests}
use Rattle.fault.specs.declared.fault.Fault.{Fault}
use Rattle.fault.specs.Steps.{and_then}
use Rattle.text.specs.declared.triple.Triple.{Triple}
use Rattle.text.specs.Texts.{Fitting, Spells, SpellsTable, TableOrder, line_of, order_of, text_of}
use Rattle.text.specs.Reading.{Tells, line_read, lines_read, order_checked, table_read, text_read, whole_lines}
use Rattle.text.proofs.Orders.{order_passed, order_passes}
use Rattle.text.proofs.Parts.{length_line, line_read_of, line_spells}
use Rattle.text.proofs.Steps.{no_answer, passed, went_on}

pub length_text : (ts : List Triple) → AllByRecursion Fitting ts → length (text_of ts) ≡ 25 * length ts
length_text [] fits = refl
length_text (t ∷ ts) fits = length-append (line_of t) (text_of ts) ∙ omega (arith, length_line t fits.0, length_text ts fits.1)

-- lines, one after another, are read as the triples that they were made of
lines_read_of : (ts : List Triple) (i : ℕ) → AllByRecursion Fitting ts → lines_read (length ts) (text_of ts) i ≡ Ok ts
lines_read_of [] i fits = refl
lines_read_of (t ∷ ts) i fits =
    let all : length (line_of t) ≡ 25 = length_line t fits.0 in
    let one : line_read (take 25 (text_of (t ∷ ts))) i ≡ Ok t = ap (λ bs. line_read bs i) (take_at (line_of t) (text_of ts) 25 all) ∙ line_read_of t i fits.0 in
    let rest : lines_read (length ts) (drop 25 (text_of (t ∷ ts))) (suc i) ≡ Ok ts =
    ap (λ bs. lines_read (length ts) bs (suc i)) (drop_at (line_of t) (text_of ts) 25 all) ∙ lines_read_of ts (suc i) fits.1 in
    ap (λ r. and_then r (λ u. and_then (lines_read (length ts) (drop 25 (text_of (t ∷ ts))) (suc i)) (λ us. Ok (u ∷ us)))) one ∙
    ap (λ r. and_then r (λ us. Ok (t ∷ us))) rest

record Lined (k : ℕ) (bs : List ℕ) (ts : List Triple) : Type 0 where
  text : text_of ts ≡ bs
  count : length ts ≡ k
  fits : AllByRecursion Fitting ts

lines_spell : (k : ℕ) (bs : List ℕ) (i : ℕ) (ts : List Triple) → length bs ≡ 25 * k → lines_read k bs i ≡ Ok ts → Lined k bs ts
lines_spell zero bs i ts all read =
    let none : [] ≡ ts = cc in
    subst (λ us. Lined zero bs us) none (record { text = sym (nil_from_length bs (omega arith)); count = refl; fits = tt })
lines_spell (suc k) bs i ts all read =
    let one = went_on (line_read (take 25 bs) i) _ ts read in
    let more = went_on (lines_read k (drop 25 bs) (suc i)) _ ts one.2 in
    let line = line_spells (take 25 bs) i one.0 (length-take-le 25 bs (omega arith)) one.1 in
    let rest = lines_spell k (drop 25 bs) (suc i) more.0 (length-drop 25 bs ∙ omega arith) more.1 in
    let same : one.0 ∷ more.0 ≡ ts = cc more.2 in
    subst (λ us. Lined (suc k) bs us) same
    (record {
      text = ap (λ xs. xs ++ text_of more.0) line.0 ∙ ap (λ xs. take 25 bs ++ xs) rest.text ∙ take-append-drop 25 bs;
      count = ap suc rest.count;
      fits = (line.1, rest.fits);
    })

pub whole_parts : (n : ℕ) → whole_lines n ≡ true → (0 < n) × (n % 25 ≡ 0) × (n ≤ 425)
whole_parts n whole = grind (arith, nat_tests)

-- a text of 1 to 17 whole lines is read line by line
pub text_read_whole : (bs : List ℕ) → 0 < length bs → length bs % 25 ≡ 0 → length bs ≤ 425 → text_read bs ≡ lines_read (length bs / 25) bs 1
unfolding text_read
text_read_whole bs some even short = grind (arith, nat_tests)

-- the text of triples is read as the triples
pub text_read_of : (ts : List Triple) → 1 ≤ length ts → length ts ≤ 17 → AllByRecursion Fitting ts → text_read (text_of ts) ≡ Ok ts
text_read_of ts some few fits =
    let all : length (text_of ts) ≡ 25 * length ts = length_text ts fits in
    let count : length (text_of ts) / 25 ≡ length ts = omega arith in
    text_read_whole (text_of ts) (omega arith) (omega arith) (omega arith) ∙ ap (λ k. lines_read k (text_of ts) 1) count ∙ lines_read_of ts 1 fits

-- a text is read only as the triples that it spells
text_spells : (bs : List ℕ) (ts : List Triple) → text_read bs ≡ Ok ts → Spells ts bs
unfolding text_read
text_spells bs ts read =
    let whole = passed (whole_lines (length bs)) (lines_read (length bs / 25) bs 1) _ ts read in
    let p = whole_parts (length bs) whole.0 in
    let lined = lines_spell (length bs / 25) bs 1 ts (omega arith) whole.1 in
    record { text = lined.text; some = omega (arith, lined.count); few = omega (arith, lined.count); fits = lined.fits }

-- and nothing is spelt by a text that is refused
pub told_text : (bs : List ℕ) (r : Result (List Triple) Fault) → text_read bs ≡ r → Tells Spells bs r
told_text bs (Ok ts) read = text_spells bs ts read
told_text bs (Err f) read =
    λ ts spells. no_answer ts f (sym read ∙ ap text_read (sym spells.text) ∙ text_read_of ts spells.some spells.few spells.fits)

-- the text of triples that begin with an order is read as a table
pub table_read_of : (ts : List Triple) → 1 ≤ length ts → length ts ≤ 17 → AllByRecursion Fitting ts → TableOrder (order_of ts) → table_read (text_of ts) ≡ Ok ts
table_read_of ts some few fits order = grind (arith, text_read_of, order_passes)

-- so is no other text
pub told_table : (bs : List ℕ) (r : Result (List Triple) Fault) → table_read bs ≡ r → Tells SpellsTable bs r
told_table bs (Ok ts) read =
    let text = went_on (text_read bs) _ ts read in
    let order = went_on (order_checked text.0) _ ts text.2 in
    let same : text.0 ≡ ts = cc order.2 in
    subst (λ us. SpellsTable us bs) same (text_spells bs text.0 text.1, order_passed text.0 order.1)
told_table bs (Err f) read =
    λ ts spells. let s = spells.0 in
    no_answer ts f (sym read ∙ ap table_read (sym s.text) ∙ table_read_of ts s.some s.few s.fits spells.1)
