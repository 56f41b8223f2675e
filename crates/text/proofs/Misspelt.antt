-- A refused line is the first that is misspelt, and it is so in its first such field. Assumes nothing.
use Rattle.std.proofs.Common.{◌≡◌, ℕ, zero, suc, ◌+◌, ◌*◌, ◌/◌, ◌<◌, ◌≤◌, true, false, eqb, ◌⊎◌, List, [], ◌∷◌, ◌++◌, length, get_or, take, drop, Some, None, Ok, Err, Result, sym, refl, ap, ◌∙◌, subst, inl, inr, ⊎_elim, arith}
use Rattle.std.specs.List.{AllByRecursion}
use Rattle.std.proofs.lemmas.List.{drop-drop, drop-take, length-drop, length-take-le, take-append-drop, take-take}
use Rattle.std.proofs.lemmas.Bool.{cases_Bool, cases_eq, cond-false, cond-true, eqb-false, eqb-true}
use Rattle.std.proofs.lemmas.Bool.Decides.{nat_tests}
use Rattle.fault.specs.declared.fault.Fault.{Fault}
use Rattle.fault.specs.declared.rule.Rule.TheVariants.{LineFeed, WellFormed, WholeLines}
use Rattle.fault.specs.Rules.{fault_number, fault_of}
use Rattle.fault.specs.Steps.{map_ok}
use Rattle.text.specs.declared.triple.Triple.{Triple}
use Rattle.text.specs.Fields.{Reads, field_read}
use Rattle.text.specs.Texts.{Fitting, line_of, text_of}
use Rattle.text.specs.Reading.{field_at, field_bytes, line_read, lines_read, text_read, whole_lines}
use Rattle.text.specs.Places.{FirstMisspelt, MisspeltLine, MisspeltRefusal}
use Rattle.text.proofs.Fields.{reads_field}
use Rattle.text.proofs.Parts.{line_spells, spelt}
use Rattle.text.proofs.Spellings.{whole_parts}
use Rattle.text.proofs.Steps.{no_answer, stopped, was_none, was_some}

-- the field j of a line is a number's text
abbrev Number : List ℕ → ℕ → Type 0
Number bs j = (n : ℕ) × Reads (field_bytes bs j) (Some n)

is_number : (bs : List ℕ) (i j n : ℕ) → field_at bs i j ≡ Ok n → Number bs j
is_number bs i j n h = (n, spelt (field_bytes bs j) n (was_some _ _ n h))

-- the line i is misspelt in its field j
in_field : (bs : List ℕ) (i j : ℕ) (f : Fault) → get_or bs 24 0 ≡ 10 → ((k : ℕ) → 1 ≤ k → k < j → Number bs k) → field_at bs i j ≡ Err f → (f.place.0 ≡ i) × MisspeltLine bs f
in_field bs i j f fed before h =
    let p = was_none (field_read (field_bytes bs j)) (fault_of WellFormed i j) f h in
    let none : Reads (field_bytes bs j) None = rw p.0 at (reads_field (field_bytes bs j)) in
    subst (λ (d : Fault). (d.place.0 ≡ i) × MisspeltLine bs d) p.1 (refl, inr (refl, fed, none, before))

line_misspelt : (bs : List ℕ) (i : ℕ) (f : Fault) → line_read bs i ≡ Err f → (f.place.0 ≡ i) × MisspeltLine bs f
line_misspelt bs i f h =
    ⊎_elim
    (λ (test : eqb (get_or bs 24 0) 10 ≡ true).
    let fed : get_or bs 24 0 ≡ 10 = eqb-true (get_or bs 24 0) 10 test in
    ⊎_elim (λ one. in_field bs i 1 f fed (λ k low high. absurd (omega arith)) one)
    (λ past. let one = is_number bs i 1 past.0 past.1 in ⊎_elim
    (λ two. in_field bs i 2 f fed (λ k low high. let first : 1 ≡ k = omega arith in subst (Number bs) first one) two)
    (λ more. let two = is_number bs i 2 more.0 more.1 in ⊎_elim
    (λ three. in_field bs i 3 f fed
    (λ k low high. ⊎_elim
    (λ (first : 1 ≡ k). subst (Number bs) first one)
    (λ (other : 1 ≡ k → ⊥). let second : 2 ≡ k = omega arith in subst (Number bs) second two)
    (cases_eq 1 k)) three)
    (λ all. absurd (no_answer _ f (sym all.2)))
    (stopped (field_at bs i 3) _ f more.2))
    (stopped (field_at bs i 2) _ f past.2))
    (stopped (field_at bs i 1) _ f (sym (cond-true _ _ _ test) ∙ h)))
    (λ (test : eqb (get_or bs 24 0) 10 ≡ false).
    let e : ◌≡◌ {A = Result Triple Fault} (Err (fault_of LineFeed i 0)) (Err f) = sym (cond-false _ _ _ test) ∙ h in
    let same : fault_of LineFeed i 0 ≡ f = cc in
    subst (λ (d : Fault). (d.place.0 ≡ i) × MisspeltLine bs d) same (refl, inl (refl, eqb-false (get_or bs 24 0) 10 test)))
    (cases_Bool (eqb (get_or bs 24 0) 10))

-- the first misspelt line of a text that begins with the line i
record Found (i : ℕ) (bs : List ℕ) (f : Fault) : Type 0 where
  before : List Triple
  fits : AllByRecursion Fitting before
  text : take (25 * length before) bs ≡ text_of before
  line : f.place.0 ≡ i + length before
  wrong : MisspeltLine (take 25 (drop (25 * length before) bs)) f

take_split : (m n : ℕ) (bs : List ℕ) → take (m + n) bs ≡ take m bs ++ take n (drop m bs)
take_split m n bs =
    sym (take-append-drop m (take (m + n) bs)) ∙ ap (λ xs. xs ++ drop m (take (m + n) bs)) (take-take m (m + n) bs (omega arith)) ∙
    ap (λ xs. take m bs ++ xs) (drop-take m n bs)

found : (k : ℕ) (bs : List ℕ) (i : ℕ) (f : Fault) → length bs ≡ 25 * k → lines_read k bs i ≡ Err f → Found i bs f
found zero bs i f all h = absurd (no_answer [] f (sym h))
found (suc k) bs i f all h =
    ⊎_elim
    (λ here. let p = line_misspelt (take 25 bs) i f here in record { before = []; fits = tt; text = refl; line = p.0 ∙ omega arith; wrong = p.1 })
    (λ past. ⊎_elim
    (λ later.
    let t = past.0 in
    let line = line_spells (take 25 bs) i t (length-take-le 25 bs (omega arith)) past.1 in
    let rest = found k (drop 25 bs) (suc i) f (length-drop 25 bs ∙ omega arith) later in
    let n : ℕ = length rest.before in
    let more : 25 + 25 * n ≡ 25 * suc n = omega arith in
    record {
      before = t ∷ rest.before;
      fits = (line.1, rest.fits);
      text = ap (λ m. take m bs) (sym more) ∙ take_split 25 (25 * n) bs ∙ ap (λ xs. xs ++ take (25 * n) (drop 25 bs)) (sym line.0) ∙ ap (λ xs. line_of t ++ xs) rest.text;
      line = rest.line ∙ omega arith;
      wrong = subst (λ xs. MisspeltLine (take 25 xs) f) (drop-drop (25 * n) 25 bs ∙ ap (λ m. drop m bs) more) rest.wrong;
    })
    (λ all. absurd (no_answer _ f (sym all.2)))
    (stopped (lines_read k (drop 25 bs) (suc i)) _ f past.2))
    (stopped (line_read (take 25 bs) i) _ f h)

-- the refusal is for a line, and not for the text's length or its order
abbrev ForLine : Fault → Type 0
ForLine f = (fault_number f ≡ 12) ⊎ (fault_number f ≡ 13)

other : (d f : Fault) → d ≡ f → (fault_number d ≡ 12 → ⊥) → (fault_number d ≡ 13 → ⊥) → ForLine f → ⊥
other d f same no_feed no_field = grind (arith, nat_tests)

text_first : (bs : List ℕ) (f : Fault) → text_read bs ≡ Err f → ForLine f → FirstMisspelt bs f
unfolding text_read
text_first bs f h for_line =
    ⊎_elim
    (λ (test : whole_lines (length bs) ≡ true).
    let p = whole_parts (length bs) test in
    let it = found (length bs / 25) bs 1 f (omega arith) (sym (cond-true _ _ _ test) ∙ h) in
    record { before = it.before; fits = it.fits; text = it.text; line = it.line; wrong = it.wrong })
    (λ (test : whole_lines (length bs) ≡ false).
    let e : ◌≡◌ {A = Result (List Triple) Fault} (Err (fault_of WholeLines 0 0)) (Err f) = sym (cond-false _ _ _ test) ∙ h in
    let same : fault_of WholeLines 0 0 ≡ f = cc in
    absurd (other (fault_of WholeLines 0 0) f same (λ e. omega arith) (λ e. omega arith) for_line))
    (cases_Bool (whole_lines (length bs)))

-- however the triples are held
pub text_misspelt : {X : Type 0} (held : X → List Triple) (bs : List ℕ) (r : Result X Fault) → map_ok held r ≡ text_read bs → MisspeltRefusal bs r
text_misspelt held bs (Ok x) value = tt
text_misspelt held bs (Err f) value = text_first bs f (sym value)
