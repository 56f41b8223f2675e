-- When a call is accepted: what its answer says of the state that it was asked in. Assumes nothing.
use Rattle.std.proofs.Common.{◌≡◌, ℕ, ◌-◌, ◌<◌, ◌≤◌, Bool, true, false, cond, ◌&&◌, ltb, leb, length, Some, None, Ok, Err, Option, Result, sym, refl, ap, ◌∙◌, subst}
use Rattle.std.proofs.lemmas.Bool.{and_parts, leb-true, ltb-true}
use Rattle.fault.specs.declared.fault.Fault.{Fault}
use Rattle.fault.specs.Steps.{and_then}
use Rattle.supply.specs.declared.grant.Grant.{Grant}
use Rattle.dispatch.specs.declared.job.Active.{Active}
use Rattle.dispatch.specs.declared.reply.Ticked.{Ticked}
use Rattle.dispatch.specs.declared.reply.Reply.{Reply}
use Rattle.dispatch.specs.declared.reply.Reply.TheVariants.{Refused}
use Rattle.dispatch.specs.Jobs.{state_at}
use Rattle.dispatch.specs.Ticks.{Goes}
use Rattle.dispatch.specs.Runs.{RunState, unless_refused, place_of, admit, release_answer, age_of, end_answer, last_clock, ticked, tick_answer, replied}

-- what holds after an accepted call, and of the state as it was, holds after the call
pub unless_refused_both : {A B : Type 0} (P : B → Type 0) (r : Result A Fault) (new old : B) → ((x : A) → r ≡ Ok x → P new) → P old → P (unless_refused r new old)
unless_refused_both P (Ok x) new old accepted refused = accepted x refl
unless_refused_both P (Err f) new old accepted refused = refused

-- the same of the reply together with the state
pub reply_both : {A B : Type 0} (P : Reply → B → Type 0) (say : A → Reply) (r : Result A Fault) (new old : B)
    → ((x : A) → r ≡ Ok x → P (say x) new) → ((f : Fault) → P (Refused f) old) → P (replied say r) (unless_refused r new old)
reply_both P say (Ok x) new old accepted refused = accepted x refl
reply_both P say (Err f) new old accepted refused = refused f

-- and of the reply alone
pub replied_both : {A : Type 0} (P : Reply → Type 0) (say : A → Reply) (r : Result A Fault) → ((x : A) → r ≡ Ok x → P (say x)) → ((f : Fault) → P (Refused f)) → P (replied say r)
replied_both P say (Ok x) accepted refused = accepted x refl
replied_both P say (Err f) accepted refused = refused f

and_then_ok : {A B E : Type 0} (r : Result A E) (f : A → Result B E) (y : B) → and_then r f ≡ Ok y → (x : A) × (r ≡ Ok x) × (f x ≡ Ok y)
and_then_ok (Ok x) f y is = (x, refl, is)
and_then_ok (Err e) f y is = absurd cc

cond_ok : {A E : Type 0} (t : Bool) (x : A) (e : E) (y : A) → cond t (Ok x) (Err e) ≡ Ok y → (t ≡ true) × (x ≡ y)
cond_ok true x e y is = (refl, cc)
cond_ok false x e y is = absurd cc

-- the row that a call names is there
pub place_there : (i n k : ℕ) → place_of i n ≡ Ok k → (1 ≤ i) × (i ≤ n) × (i - 1 ≡ k)
place_there i n k is =
    let test = cond_ok (leb 1 i && leb i n) (i - 1) _ k is in
    let parts = and_parts (leb 1 i) (leb i n) test.0 in
    (leb-true 1 i parts.0, leb-true i n parts.1, test.1)

-- a release comes no sooner than its row's next is due
pub release_accepted : {S : Type 0} (i : ℕ) (st : RunState S) (x : Unit {0}) → release_answer i st ≡ Ok x
    → (1 ≤ i) × (i ≤ length st.rows) × ((state_at st.rows (i - 1)).next ≤ st.clock)
release_accepted i st x is =
    let both = and_then_ok (place_of i (length st.rows)) (λ k. admit i st.clock (state_at st.rows k)) x is in
    let place = place_there i (length st.rows) both.0 both.1 in
    let due : (state_at st.rows both.0).next ≤ st.clock = leb-true _ _ (cond_ok (leb (state_at st.rows both.0).next st.clock) tt _ x both.2).0 in
    (place.0, place.1, subst (λ k. (state_at st.rows k).next ≤ st.clock) (sym place.2) due)

age_ok : (i clock : ℕ) (o : Option Active) (age : ℕ) → age_of i clock o ≡ Ok age → (a : Active) × (o ≡ Some a) × (clock - a.job.release ≡ age)
age_ok i clock None age is = absurd cc
age_ok i clock (Some a) age is = (a, refl, cc)

-- an end finds a job, and answers its age
pub end_accepted : {S : Type 0} (i : ℕ) (st : RunState S) (age : ℕ) → end_answer i st ≡ Ok age
    → (1 ≤ i) × (i ≤ length st.rows) × ((a : Active) × ((state_at st.rows (i - 1)).active ≡ Some a) × (st.clock - a.job.release ≡ age))
end_accepted i st age is =
    let both = and_then_ok (place_of i (length st.rows)) (λ k. age_of i st.clock (state_at st.rows k).active) age is in
    let place = place_there i (length st.rows) both.0 both.1 in
    let found = age_ok i st.clock (state_at st.rows both.0).active age both.2 in
    (place.0, place.1, (found.0, ap (λ k. (state_at st.rows k).active) place.2 ∙ found.1, found.2))

-- a tick is accepted before the last clock
pub tick_accepted : {S : Type 0} (step : S → Bool → (Grant × S)) (goes : Goes) (offer : Bool) (st : RunState S) (t : Ticked) → tick_answer step goes offer st ≡ Ok t
    → (st.clock < last_clock) × (ticked step goes offer st ≡ t)
tick_accepted step goes offer st t is =
    let test = cond_ok (ltb st.clock last_clock) (ticked step goes offer st) _ t is in
    (ltb-true st.clock last_clock test.0, test.1)
