-- The digits of a number, read from the left and written from the right. Assumes nothing.
use Rattle.std.proofs.Common.{◌≡◌, ℕ, ◌+◌, ◌-◌, ◌*◌, ◌/◌, ◌%◌, ◌^◌, ◌<◌, ◌≤◌, true, List, [], ◌∷◌, ◌++◌, length, take, drop, set, replicate, decimal, sym, ap, ◌∙◌, ⊎_elim, append_assoc, add-one, arith, rules}
use Rattle.std.proofs.Math.Nat.{pow-le-pow_right, pow-succ'}
use Rattle.std.specs.Str.{all_ascii_digits}
use Rattle.std.proofs.lemmas.Nat.{div_below}
use Rattle.std.proofs.lemmas.Fmt.{decimal_digit, decimal_step}
use Rattle.std.proofs.lemmas.List.{drop-set, length-set, take-replicate, take-set, take-take}
use Rattle.std.proofs.lemmas.Str.Parse.{IsNumeralModel, numerals_by_fold, tells_all_ascii_digits}
use Rattle.std.proofs.lemmas.Bool.{cases_order}
use Rattle.std.proofs.lemmas.Grind.{common_steps}
use Rattle.text.specs.Fields.{field_of, value_after}

-- `value_after 0` is the number that digits write
pub own : IsNumeralModel (λ ds. all_ascii_digits ds ≡ true) (value_after 0)
own = numerals_by_fold _ tells_all_ascii_digits value_after (search rules)

pow_more : (i : ℕ) → 10 ^ (i + 1) ≡ 10 * 10 ^ i
pow_more i = ap (λ k. 10 ^ k) (add-one i) ∙ pow-succ' 10 i

-- fewer than eight digits leave room for one more
pub pow_seven : (i : ℕ) → i < 8 → 10 ^ i ≤ 10000000
pow_seven i h = pow-le-pow_right {n = 10} (omega arith) {i = i} {j = 7} (omega arith)

-- the digits of n from `at` on are written, those of `rest` are still to come, and before them are spaces
pub record Written (n rest at : ℕ) (out : List ℕ) : Type 0 where
  pub some : 0 < at
  pub below : rest < 10 ^ at
  pub spaces : take at out ≡ replicate at 32
  pub digits : decimal n ≡ decimal rest ++ drop at out

-- no digit is written
pub written_none : (n at : ℕ) (out : List ℕ) → at ≡ 8 → n < 10 ^ 8 → out ≡ replicate at 32 → Written n n at out
written_none n at out eight fits blank = grind (arith, common_steps)

spaces_less : (at b : ℕ) (out : List ℕ) → take at out ≡ replicate at 32 → take (at - 1) (set out (at - 1) b) ≡ replicate (at - 1) 32
spaces_less at b out spaces =
    take-set out (at - 1) b ∙ sym (take-take (at - 1) at out (omega arith)) ∙ ap (take (at - 1)) spaces ∙ take-replicate (at - 1) at 32 (omega arith)

-- one digit more is written, before those from `at` on
pub written_more : (n rest at : ℕ) (out : List ℕ) → length out ≡ 8 → at ≤ 8 → 10 ≤ rest → Written n rest at out → Written n (rest / 10) (at - 1) (set out (at - 1) (48 + rest % 10))
written_more n rest at out eight low ten so =
    let next : at - 1 + 1 ≡ at = omega (arith, so.some) in
    let within : at - 1 < length out = omega (arith, so.some) in
    let top : 10 ^ at ≤ 10 ^ 8 = pow-le-pow_right {n = 10} (omega arith) {i = at} {j = 8} low in
    let pow : 10 ^ at ≡ 10 * 10 ^ (at - 1) = ap (λ k. 10 ^ k) (sym next) ∙ pow_more (at - 1) in
    record {
      some = ⊎_elim (λ (e : at - 1 ≡ 0). omega (arith, so.below, ap (λ k. 10 ^ k) e)) (⊎_elim (λ (l : at - 1 < 0). omega arith) (λ (g : 0 < at - 1). g)) (cases_order (at - 1) 0);
      below = div_below rest 10 (10 ^ (at - 1)) (omega arith) (omega (arith, so.below));
      spaces = spaces_less at (48 + rest % 10) out so.spaces;
      digits =
          so.digits ∙ ap (λ x. x ++ drop at out) (decimal_step rest ten (omega (arith, so.below))) ∙ append_assoc (decimal (rest / 10)) ((48 + rest % 10) ∷ []) (drop at out)
          ∙ ap (λ k. decimal (rest / 10) ++ ((48 + rest % 10) ∷ drop k out)) (sym next)
          ∙ ap (λ x. decimal (rest / 10) ++ x) (sym (drop-set out (at - 1) (48 + rest % 10) within));
    }

-- spaces up to `at`, and then the digits of n: that is the text of n
pub padded : (at n : ℕ) (bs : List ℕ) → length bs ≡ 8 → at ≤ 8 → take at bs ≡ replicate at 32 → drop at bs ≡ decimal n → bs ≡ field_of n
unfolding field_of
padded at n bs eight low blank digits = grind (arith, common_steps)

-- with the first digit of all the text of n is written
pub written_all : (n rest at : ℕ) (out : List ℕ) → length out ≡ 8 → at ≤ 8 → rest < 10 → Written n rest at out → set out (at - 1) (48 + rest % 10) ≡ field_of n
written_all n rest at out eight low ten so =
    let digit : rest % 10 ≡ rest = omega arith in
    let next : at - 1 + 1 ≡ at = omega (arith, so.some) in
    let within : at - 1 < length out = omega (arith, so.some) in
    padded (at - 1) n (set out (at - 1) (48 + rest % 10)) (length-set out (at - 1) (48 + rest % 10) ∙ eight) (omega arith) (spaces_less at (48 + rest % 10) out so.spaces)
    (drop-set out (at - 1) (48 + rest % 10) within ∙ ap (λ k. (48 + rest % 10) ∷ drop k out) next ∙ ap (λ d. (48 + d) ∷ drop at out) digit ∙
    sym (so.digits ∙ ap (λ x. x ++ drop at out) (decimal_digit rest ten)))
