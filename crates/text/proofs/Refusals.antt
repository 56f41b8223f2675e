-- Every refusal has numbers that fit into fields. Assumes nothing.
use Rattle.std.proofs.Common.{◌≡◌, ℕ, zero, suc, ◌+◌, ◌≤◌, List, [], ◌∷◌, length, take, drop, Ok, Err, Result, sym, subst, arith}
use Rattle.std.proofs.lemmas.Bool.Decides.{nat_tests}
use Rattle.fault.specs.declared.fault.Fault.{Fault}
use Rattle.fault.specs.Steps.{and_then, map_ok}
use Rattle.text.specs.declared.triple.Triple.{Triple}
use Rattle.text.specs.Fields.{Fits}
use Rattle.text.specs.Reading.{PrintableRefusal, line_read, lines_read, order_checked, table_read, text_read}
use Rattle.text.specs.Writing.{lines_checked, lines_written, number_checked, table_written, triple_checked, triples_checked}
use Rattle.text.proofs.Spellings.{whole_parts}

-- two steps
then_printable : {X Y : Type 0} (r : Result X Fault) (g : X → Result Y Fault) → PrintableRefusal r → ((x : X) → PrintableRefusal (g x)) → PrintableRefusal (and_then r g)
then_printable (Ok x) g p q = q x
then_printable (Err f) g p q = p

-- the same result, seen otherwise
pub view_printable : {X Y : Type 0} (g : X → Y) (r : Result X Fault) (s : Result Y Fault) → map_ok g r ≡ s → PrintableRefusal s → PrintableRefusal r
view_printable g (Ok x) s e p = tt
view_printable g (Err f) s e p = subst PrintableRefusal (sym e) p

-- reading
line_printable : (bs : List ℕ) (i : ℕ) → Fits i → PrintableRefusal (line_read bs i)
line_printable bs i fi = grind (arith, nat_tests)

lines_printable : (k : ℕ) (bs : List ℕ) (i : ℕ) → i + k ≤ 18 → PrintableRefusal (lines_read k bs i)
lines_printable zero bs i few = tt
lines_printable (suc k) bs i few =
    then_printable (line_read (take 25 bs) i) _ (line_printable (take 25 bs) i (omega arith))
    (λ t. then_printable (lines_read k (drop 25 bs) (suc i)) _ (lines_printable k (drop 25 bs) (suc i) (omega arith)) (λ ts. tt))

pub text_printable : (bs : List ℕ) → PrintableRefusal (text_read bs)
unfolding text_read
text_printable bs = grind (arith, nat_tests, lines_printable, whole_parts)

order_printable : (ts : List Triple) → PrintableRefusal (order_checked ts)
order_printable ts = grind (arith, nat_tests)

pub table_printable : (bs : List ℕ) → PrintableRefusal (table_read bs)
table_printable bs = grind (arith, text_printable, order_printable)

-- writing
number_printable : (n i j : ℕ) → Fits i → Fits j → PrintableRefusal (number_checked n i j)
number_printable n i j fi fj = grind (arith, nat_tests)

triples_printable : (ts : List Triple) (i : ℕ) → i + length ts ≤ 18 → PrintableRefusal (triples_checked ts i)
triples_printable [] i few = tt
triples_printable (t ∷ ts) i few =
    let fi : Fits i = omega arith in
    then_printable (triple_checked t i) _
    (then_printable (number_checked t.first i 1) _ (number_printable t.first i 1 fi (omega arith))
    (λ _. then_printable (number_checked t.second i 2) _ (number_printable t.second i 2 fi (omega arith)) (λ _. number_printable t.third i 3 fi (omega arith))))
    (λ _. triples_printable ts (suc i) (omega arith))

lines_checked_printable : (ts : List Triple) (room : ℕ) → PrintableRefusal (lines_checked ts room)
unfolding lines_checked
lines_checked_printable ts room = grind (arith, nat_tests, triples_printable)

pub lines_written_printable : (ts : List Triple) (room : ℕ) → PrintableRefusal (lines_written ts room)
lines_written_printable ts room = grind (arith, lines_checked_printable)

pub table_written_printable : (ts : List Triple) (room : ℕ) → PrintableRefusal (table_written ts room)
table_written_printable ts room = grind (arith, lines_checked_printable, order_printable)
