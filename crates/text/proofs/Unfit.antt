-- A refused number is the first that does not fit. Assumes nothing.
use Rattle.std.proofs.Common.{◌≡◌, ℕ, suc, ◌+◌, ◌*◌, ◌/◌, ◌%◌, ◌^◌, ◌≤◌, Bool, true, false, cond, ltb, ◌⊎◌, List, [], ◌∷◌, length, get_or, take, Ok, Err, Result, sym, ap, ◌∙◌, inl, inr, ⊎_elim, arith}
use Rattle.std.specs.List.{AllByRecursion}
use Rattle.std.proofs.lemmas.Bool.Decides.{nat_tests}
use Rattle.fault.specs.declared.fault.Fault.{Fault}
use Rattle.fault.specs.declared.rule.Rule.TheVariants.{KnownOrder, RoomToWrite, WholeLines}
use Rattle.fault.specs.Rules.{fault_number, fault_of}
use Rattle.text.specs.declared.triple.Triple.{Triple}
use Rattle.text.specs.Fields.{Fits}
use Rattle.text.specs.Places.{FirstUnfit, UnfitRefusal, numbers_of}
use Rattle.text.specs.Writing.{few_lines, lines_checked, lines_written, number_checked, table_checked, table_written, triple_checked, triples_checked}
use Rattle.text.proofs.Checks.{number_fits, triple_fits}
use Rattle.text.proofs.Steps.{failed, no_answer, stopped}

-- the first of the numbers ns that does not fit, where they begin in the line i
record Found (ns : List ℕ) (i : ℕ) (f : Fault) : Type 0 where
  at : ℕ
  place : f.place ≡ (i + at / 3, 1 + at % 3)
  large : 10 ^ 8 ≤ get_or ns at 0
  before : AllByRecursion Fits (take at ns)

refused : (n i j : ℕ) (f : Fault) → number_checked n i j ≡ Err f → (10 ^ 8 ≤ n) × (f.place ≡ (i, j))
refused n i j f h = grind (arith, nat_tests)

found : (ts : List Triple) (i : ℕ) (f : Fault) → triples_checked ts i ≡ Err f → Found (numbers_of ts) i f
found [] i f h = absurd (no_answer tt f (sym h))
found (t ∷ ts) i f h =
    let here : i ≡ i + 0 = omega arith in
    ⊎_elim
    (λ (in_it : triple_checked t i ≡ Err f). ⊎_elim
    (λ one. let p = refused t.first i 1 f one in record { at = 0; place = p.1 ∙ ap (λ k. (k, 1)) here; large = p.0; before = tt })
    (λ past. let one = number_fits t.first i 1 past.1 in ⊎_elim
    (λ two. let p = refused t.second i 2 f two in record { at = 1; place = p.1 ∙ ap (λ k. (k, 2)) here; large = p.0; before = (one, tt) })
    (λ more. let p = refused t.third i 3 f more.2 in
    record { at = 2; place = p.1 ∙ ap (λ k. (k, 3)) here; large = p.0; before = (one, (number_fits t.second i 2 more.1, tt)) })
    (stopped (number_checked t.second i 2) _ f past.2))
    (stopped (number_checked t.first i 1) _ f in_it))
    (λ past.
    let fits = triple_fits t i past.1 in
    let rest = found ts (suc i) f past.2 in
    let k : ℕ = rest.at in
    let line : suc i + k / 3 ≡ i + suc (suc (suc k)) / 3 = omega arith in
    let field : 1 + k % 3 ≡ 1 + suc (suc (suc k)) % 3 = omega arith in
    record {
      at = suc (suc (suc k));
      place = rest.place ∙ ap (λ m. (m, 1 + k % 3)) line ∙ ap (λ m. (i + suc (suc (suc k)) / 3, m)) field;
      large = rest.large;
      before = (fits.0, (fits.1, (fits.2, rest.before)));
    })
    (stopped (triple_checked t i) _ f h)

-- a refusal for another reason has another number
other : (d f : Fault) → ◌≡◌ {A = Result Unit Fault} (Err d) (Err f) → (fault_number d ≡ 13 → ⊥) → fault_number f ≡ 13 → ⊥
other d f h no_unfit unfit = grind (arith, nat_tests)

either : (b : Bool) (r s : Result Unit Fault) (f : Fault) → cond b r s ≡ Err f → (r ≡ Err f) ⊎ (s ≡ Err f)
either true r s f h = inl h
either false r s f h = inr h

first_unfit : (ts : List Triple) (room : ℕ) (f : Fault) → lines_checked ts room ≡ Err f → fault_number f ≡ 13 → FirstUnfit ts f
unfolding lines_checked
first_unfit ts room f h unfit =
    ⊎_elim (λ short. absurd (other (fault_of RoomToWrite 0 room) f short (λ e. omega arith) unfit))
    (λ roomy. ⊎_elim
    (λ few. let it = found ts 1 f few in record { at = it.at; place = it.place; large = it.large; before = it.before })
    (λ many. absurd (other (fault_of WholeLines 0 0) f many (λ e. omega arith) unfit))
    (either (few_lines (length ts)) _ _ f roomy))
    (either (ltb room 425) _ _ f h)

-- a refusal in place of the count of the bytes
pub unfit_lines : (ts : List Triple) (room : ℕ) (r : Result ℕ Fault) → r ≡ lines_written ts room → UnfitRefusal ts r
unfit_lines ts room (Ok n) value = tt
unfit_lines ts room (Err f) value =
    ⊎_elim (λ refused. first_unfit ts room f refused) (λ past. absurd (no_answer (25 * length ts) f (sym past.2)))
    (stopped (lines_checked ts room) _ f (sym value))

pub unfit_table : (ts : List Triple) (room : ℕ) (r : Result ℕ Fault) → r ≡ table_written ts room → UnfitRefusal ts r
unfit_table ts room (Ok n) value = tt
unfit_table ts room (Err f) value =
    ⊎_elim (λ refused. ⊎_elim (λ lines. first_unfit ts room f lines)
    (λ past unfit. absurd (other (fault_of KnownOrder 1 1) f (ap (λ d. Err d) (failed _ tt (fault_of KnownOrder 1 1) f past.2).1) (λ e. omega arith) unfit))
    (stopped (lines_checked ts room) _ f refused)) (λ past. absurd (no_answer (25 * length ts) f (sym past.2)))
    (stopped (table_checked ts room) _ f (sym value))
