-- The checks before writing are passed by just what can be written. Assumes nothing.
use Rattle.std.proofs.Common.{◌≡◌, ℕ, suc, ◌≤◌, List, [], ◌∷◌, length, Ok, refl, arith}
use Rattle.std.specs.List.{AllByRecursion}
use Rattle.std.proofs.lemmas.Bool.Decides.{nat_tests}
use Rattle.text.specs.declared.triple.Triple.{Triple}
use Rattle.text.specs.Fields.{Fits}
use Rattle.text.specs.Texts.{Fitting}
use Rattle.text.specs.Writing.{Writable, WritableTable, lines_checked, number_checked, table_checked, triple_checked, triples_checked}
use Rattle.text.proofs.Orders.{order_passed, order_passes}
use Rattle.text.proofs.Steps.{went_on}

-- what passed
pub number_fits : (n i j : ℕ) → number_checked n i j ≡ Ok tt → Fits n
number_fits n i j h = grind (arith, nat_tests)

pub triple_fits : (t : Triple) (i : ℕ) → triple_checked t i ≡ Ok tt → Fitting t
triple_fits t i h = grind (arith, nat_tests)

triples_fit : (ts : List Triple) (i : ℕ) → triples_checked ts i ≡ Ok tt → AllByRecursion Fitting ts
triples_fit [] i h = tt
triples_fit (t ∷ ts) i h = let here = went_on (triple_checked t i) _ tt h in (triple_fits t i here.1, triples_fit ts (suc i) here.2)

pub writable : (ts : List Triple) (room : ℕ) → lines_checked ts room ≡ Ok tt → Writable ts room
unfolding lines_checked
writable ts room h = grind (arith, nat_tests, triples_fit)

pub table_writable : (ts : List Triple) (room : ℕ) → table_checked ts room ≡ Ok tt → WritableTable ts room
table_writable ts room h = grind (arith, writable, order_passed)

-- where room and count are as they should be, the numbers decide
pub checked_numbers : (ts : List Triple) (room : ℕ) → 425 ≤ room → 1 ≤ length ts → length ts ≤ 17 → lines_checked ts room ≡ triples_checked ts 1
unfolding lines_checked
checked_numbers ts room roomy some few = grind (arith, nat_tests)

-- what fits passes
number_passes : (n i j : ℕ) → Fits n → number_checked n i j ≡ Ok tt
number_passes n i j fits = grind (arith, nat_tests)

triples_pass : (ts : List Triple) (i : ℕ) → AllByRecursion Fitting ts → triples_checked ts i ≡ Ok tt
triples_pass [] i fits = refl
triples_pass (t ∷ ts) i fits =
    let here = fits.0 in
    rw (number_passes t.first i 1 here.0, number_passes t.second i 2 here.1, number_passes t.third i 3 here.2) (triples_pass ts (suc i) fits.1)

pub lines_pass : (ts : List Triple) (room : ℕ) → Writable ts room → lines_checked ts room ≡ Ok tt
lines_pass ts room w = grind (arith, checked_numbers, triples_pass)

pub table_pass : (ts : List Triple) (room : ℕ) → WritableTable ts room → table_checked ts room ≡ Ok tt
table_pass ts room w = grind (arith, lines_pass, order_passes)
