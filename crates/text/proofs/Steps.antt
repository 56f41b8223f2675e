-- What a chain of steps that ended in an answer says of each of them. Assumes nothing.
use Rattle.std.proofs.Common.{◌≡◌, Bool, true, false, cond, ◌⊎◌, Some, None, Ok, Err, Option, Result, sym, refl, ap, inl, inr, arith}
use Rattle.std.specs.Option.{ok_or}
use Rattle.std.proofs.lemmas.Bool.Decides.{nat_tests}
use Rattle.fault.specs.declared.fault.Fault.{Fault}
use Rattle.fault.specs.Steps.{and_then}

-- a refusal is no answer
pub no_answer : {X : Type 0} (x : X) (f : Fault) → Err f ≡ Ok x → ⊥
no_answer x f e = grind (arith, nat_tests)

-- the test was passed
pub passed : {X : Type 0} (b : Bool) (r : Result X Fault) (f : Fault) (x : X) → cond b r (Err f) ≡ Ok x → (b ≡ true) × (r ≡ Ok x)
passed true r f x h = (refl, h)
passed false r f x h = absurd (no_answer x f h)

-- the first of two steps gave what the second went on from
pub went_on : {X Y : Type 0} (r : Result X Fault) (g : X → Result Y Fault) (y : Y) → and_then r g ≡ Ok y → (x : X) × (r ≡ Ok x) × (g x ≡ Ok y)
went_on (Ok x) g y h = (x, refl, h)
went_on (Err f) g y h = absurd (no_answer y f h)

-- there was a value
pub was_some : {X : Type 0} (o : Option X) (f : Fault) (x : X) → ok_or o f ≡ Ok x → o ≡ Some x
was_some (Some y) f x h = cc
was_some None f x h = absurd (no_answer x f h)

-- there was none
pub was_none : {X : Type 0} (o : Option X) (d f : Fault) → ok_or o d ≡ Err f → (o ≡ None) × (d ≡ f)
was_none (Some x) d f h = absurd (no_answer x f (sym h))
was_none None d f h = (refl, cc)

-- a refusal came from the first of two steps, or from the second
pub stopped : {X Y : Type 0} (r : Result X Fault) (g : X → Result Y Fault) (f : Fault) → and_then r g ≡ Err f → (r ≡ Err f) ⊎ ((x : X) × (r ≡ Ok x) × (g x ≡ Err f))
stopped (Ok x) g f h = inr (x, refl, h)
stopped (Err e) g f h = let same : e ≡ f = cc in inl (ap (λ d. Err d) same)

-- the test was not passed
pub failed : {X : Type 0} (b : Bool) (x : X) (d f : Fault) → cond b (Ok x) (Err d) ≡ Err f → (b ≡ false) × (d ≡ f)
failed true x d f h = absurd (no_answer x f (sym h))
failed false x d f h = (refl, cc)
