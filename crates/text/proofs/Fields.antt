-- What a field is the text of: at most one number, and the one that it is read as. Assumes nothing.
use Rattle.std.proofs.Common.{◌≡◌, ℕ, zero, suc, ◌-◌, ◌^◌, ◌<◌, ◌≤◌, true, false, ◌&&◌, ltb, List, ◌++◌, length, get_or, take, drop, replicate, Some, None, decimal, Option, sym, refl, ap, ◌∙◌, ⊎_elim, arith, MatchOption}
use Rattle.std.specs.Str.{all_ascii_digits, bytes_eq}
use Rattle.std.proofs.lemmas.Fmt.{decimal-digits_value, decimal_digit, decimal_nonempty, first_decimal, digits_decimal, length-decimal-le, digits_value-decimal}
use Rattle.std.proofs.lemmas.Slice.Eq.{bytes_eq-Decides}
use Rattle.std.proofs.lemmas.List.{length-drop, length-replicate, get_or-drop, take_at, drop_at}
use Rattle.std.proofs.lemmas.Str.Parse.{digits_value_short, digit_at}
use Rattle.std.proofs.lemmas.Bool.{cases_order, both_ways, and_from, and_parts, cond_both, lt-ltb, ltb-true}
use Rattle.std.proofs.lemmas.Grind.{common_steps}
use Rattle.text.specs.Fields.{Fits, Reads, candidate, field_of, field_read, value_after}
use Rattle.text.proofs.Digits.{own, padded}

word : (n : ℕ) → Fits n → n < 2 ^ 64
word n fits = omega arith

-- a field has eight bytes
pub length_field : (n : ℕ) → Fits n → length (field_of n) ≡ 8
unfolding field_of
length_field n fits = grind (arith, common_steps, length-decimal-le, word)

-- spaces in front add nothing
value_spaces : (k : ℕ) (ds : List ℕ) → value_after 0 (replicate k 32 ++ ds) ≡ value_after 0 ds
value_spaces zero ds = refl
value_spaces (suc k) ds = value_spaces k ds

-- a number is the candidate of its own text, so no two numbers have one text
candidate_field : (n : ℕ) → Fits n → candidate (field_of n) ≡ n
unfolding field_of
candidate_field n fits = grind (arith, value_spaces, digits_value-decimal, own)

-- what a field is read as is the number whose text it is
pub reads_field : (bs : List ℕ) → Reads bs (field_read bs)
unfolding field_read
reads_field bs =
    cond_both (ltb (candidate bs) (10 ^ 8) && bytes_eq bs (field_of (candidate bs))) (Some (candidate bs)) None (λ r. Reads bs r)
    (λ passes. let parts = and_parts _ _ passes in (ltb-true (candidate bs) (10 ^ 8) parts.0, (bytes_eq-Decides bs (field_of (candidate bs))).0 parts.1))
    (λ fails n fits text.
    let same : candidate bs ≡ n = ap candidate text ∙ candidate_field n fits in
    both_ways _ fails (and_from _ _ (lt-ltb (candidate bs) (10 ^ 8) (omega arith)) ((bytes_eq-Decides bs (field_of (candidate bs))).1 (text ∙ ap field_of (sym same)))))

-- and nothing else can be
pub same_reads : (bs : List ℕ) (r s : Option ℕ) → Reads bs r → Reads bs s → r ≡ s
same_reads bs (Some m) (Some n) p q = ap Some (sym (candidate_field m p.0) ∙ ap candidate (sym p.1 ∙ q.1) ∙ candidate_field n q.0)
same_reads bs (Some m) None p q = absurd (q m p.0 p.1)
same_reads bs None (Some n) p q = absurd (p n q.0 q.1)
same_reads bs None None p q = refl

-- a number's text is read as that number
pub field_read_of : (n : ℕ) → Fits n → field_read (field_of n) ≡ Some n
field_read_of n fits = same_reads (field_of n) _ (Some n) (reads_field (field_of n)) (fits, refl)

-- each of the first s bytes is a space
space_at : (bs : List ℕ) (s i : ℕ) → take s bs ≡ replicate s 32 → i < s → get_or bs i 0 ≡ 32
space_at bs s i blank h = grind (arith, common_steps)

-- bytes that begin with s spaces and no more, and are the text of n, have the digits of n from s on
starts : (bs : List ℕ) (s n : ℕ) → length bs ≡ 8 → s ≤ 8 → take s bs ≡ replicate s 32 → (s < length bs → get_or bs s 0 ≡ 32 → ⊥) → Fits n → bs ≡ field_of n → (s < 8) × (drop s bs ≡ decimal n)
unfolding field_of
starts bs s n eight low blank stops fits text =
    let k : ℕ = 8 - length (decimal n) in
    let short : length (decimal n) ≤ 8 = length-decimal-le 8 n (omega arith) fits (word n fits) in
    let some : 0 < length (decimal n) = decimal_nonempty n (word n fits) in
    let lk : length (replicate {A = ℕ} k 32) ≡ k = length-replicate {A = ℕ} k 32 in
    let digits : drop k bs ≡ decimal n = rw text (drop_at (replicate k 32) (decimal n) k lk) in
    let spaces : take k bs ≡ replicate k 32 = rw text (take_at (replicate k 32) (decimal n) k lk) in
    let first : get_or bs k 0 ≡ get_or (decimal n) 0 0 = ap (λ i. get_or bs i 0) (omega arith) ∙ sym (get_or-drop k bs 0 0) ∙ ap (λ x. get_or x 0 0) digits in
    let digit = digit_at (decimal n) 0 (own.to (decimal n) (digits_decimal own n (word n fits))) some in
    let same : s ≡ k =
    ⊎_elim (λ e. e) (⊎_elim
    (λ less. absurd (stops (omega arith) (space_at bs k s spaces less)))
    (λ more. omega (arith, space_at bs s k blank more, first, digit))) (cases_order s k) in
    (omega arith, rw same digits)

-- spaces alone are no number's text
pub none_blank : (bs : List ℕ) (s : ℕ) → length bs ≡ 8 → take s bs ≡ replicate s 32 → s ≤ length bs → length (drop s bs) < 1 → Reads bs None
none_blank bs s eight blank low none n fits text =
    let all : s ≡ 8 = omega (arith, length-drop s bs) in
    let h = starts bs s n eight (omega arith) blank (λ less _. omega arith) fits text in omega (arith, h.0)

-- nor is one a zero before another byte
pub none_zero : (bs : List ℕ) (s : ℕ) → length bs ≡ 8 → take s bs ≡ replicate s 32 → 2 ≤ length (drop s bs) → get_or (drop s bs) 0 0 ≡ 48 → Reads bs None
none_zero bs s eight blank more nought n fits text =
    let low : s < 8 = omega (arith, length-drop s bs) in
    let here : get_or bs s 0 ≡ 48 = ap (λ i. get_or bs i 0) (omega arith) ∙ sym (get_or-drop s bs 0 0) ∙ nought in
    let h = starts bs s n eight (omega arith) blank (λ _ e. omega arith) fits text in
    let first : get_or (decimal n) 0 0 ≡ 48 = sym (ap (λ x. get_or x 0 0) h.1) ∙ nought in
    let long : 2 ≤ length (decimal n) = omega (arith, ap length h.1) in
    ⊎_elim
    (λ e. omega (arith, ap (λ m. length (decimal m)) e, ap length (decimal_digit 0 (omega arith))))
    (⊎_elim (λ less. omega arith) (λ pos. omega (arith, first_decimal n pos (word n fits)))) (cases_order n 0)

-- else what the bytes past the spaces write decides
pub decided : (bs : List ℕ) (s : ℕ) (r : Option ℕ) → length bs ≡ 8 → take s bs ≡ replicate s 32 → (s < length bs → get_or bs s 0 ≡ 32 → ⊥) → 0 < length (drop s bs) → (get_or (drop s bs) 0 0 ≡ 48 → length (drop s bs) < 2) → MatchOption r (all_ascii_digits (drop s bs) ≡ false) (λ n. (all_ascii_digits (drop s bs) ≡ true) × (n ≡ candidate (drop s bs))) → Reads bs r
decided bs s None eight blank stops some alone wrong =
    λ n fits text. let h = starts bs s n eight (omega (arith, length-drop s bs)) blank stops fits text in
    both_ways (all_ascii_digits (drop s bs)) wrong (rw h.1 (digits_decimal own n (word n fits)))
decided bs s (Some n) eight blank stops some alone right =
    let long : length (drop s bs) ≡ 8 - s = length-drop s bs ∙ ap (λ k. k - s) eight in
    let fits : Fits (candidate (drop s bs)) = digits_value_short own (drop s bs) 8 right.0 (omega arith) in
    let lone : get_or (drop s bs) 0 0 ≡ 48 → length (drop s bs) ≡ 1 = λ e. omega (arith, alone e) in
    let same : decimal (candidate (drop s bs)) ≡ drop s bs = decimal-digits_value own (drop s bs) right.0 some lone (word _ fits) in
    let digits : drop s bs ≡ decimal n = sym same ∙ ap decimal (sym right.1) in
    (omega (arith, right.1), padded s n bs eight (omega arith) blank digits)

-- what is the number whose text the bytes are is what they are read as
pub told_field : (bs : List ℕ) (r : Option ℕ) → Reads bs r → r ≡ field_read bs
told_field bs r reads = grind (arith, same_reads, reads_field)
