-- The grants to come in a server's state where nothing is offered, in closed form, and what a tick takes from them.
-- Assumes nothing.
use Rattle.std.specs.Prelude.{◌≡◌, ℕ, suc, ◌+◌, ◌-◌, ◌<◌, ◌≤◌, min, Bool, true, false, cond, ◌==◌, nat_le}
use Rattle.std.proofs.Common.{ap, ⊎_elim, arith}
use Rattle.std.proofs.lemmas.Bool.{cases_lt, eqb-true, eqb-false, and_parts}
use Rattle.supply.specs.Grants.{grant, spent}
use Rattle.supply.specs.Periodic.{InRange, InPeriod, Owed, periodic_bound, grants}
use Rattle.supply.specs.Ranges.{granted_owed, withheld_room}
use Rattle.supply.specs.Closed.{from_start, from_start_zero, from_start_more, from_start_turn, bound_closed}

-- with e ticks left in the period and r owed
abbrev pub ahead : ℕ → ℕ → ℕ → ℕ → ℕ → ℕ
ahead q p e r t = min r (t - (e - r)) + from_start q p (t - e)

granted_full : (e r : ℕ) → grants e r false ≡ true → r ≡ e
granted_full e r h = eqb-true r e (and_parts (nat_le 1 r) (r == e) h).1

module _ (q p e r : ℕ) (range : InRange q p) (time : InPeriod p e) (due : Owed q p e r) where
  -- it is at least the bound
  pub ahead_bound : (t : ℕ) → periodic_bound q p t ≤ ahead q p e r t
  ahead_bound t =
      let is = bound_closed q p range.0 range.1 t in
      let more : (u b : ℕ) → (from_start q p u ≤ from_start q p (u + b)) × (from_start q p (u + b) ≤ from_start q p u + b) = from_start_more q p range.0 range.1 in
      ⊎_elim
      (λ (h : e < t).
      ⊎_elim
      (λ (k : e < p - q).
      let x : t - e ≡ (t - (p - q)) + ((t - e) - (t - (p - q))) = omega arith in
      let y = ap (from_start q p) x in
      let m = more (t - (p - q)) ((t - e) - (t - (p - q))) in
      omega arith)
      (λ (k : p - q ≤ e).
      let x : t - (p - q) ≡ (t - e) + (e - (p - q)) = omega arith in
      let y = ap (from_start q p) x in
      let m = more (t - e) (e - (p - q)) in
      omega arith)
      (cases_lt e (p - q)))
      (λ (h : t ≤ e).
      let x : t - (p - q) ≡ 0 + (t - (p - q)) = omega arith in
      let y = ap (from_start q p) x in
      let m = more 0 (t - (p - q)) in
      let z = from_start_zero q p range.0 range.1 in
      omega arith)
      (cases_lt e t)

  pub ahead_none : ahead q p e r 0 ≡ 0
  ahead_none =
      let x : 0 - e ≡ 0 = omega arith in
      let y = ap (from_start q p) x in
      let z = from_start_zero q p range.0 range.1 in
      omega arith

  -- a tick takes no more than it grants, whatever is offered
  pub ahead_spending : (offer : Bool) (t : ℕ) (g : Bool) → grants e r offer ≡ g → (b : Bool) → (e == 1) ≡ b
      → ahead q p e r (suc t) ≤ spent (grant g) + ahead q p (cond b p (e - 1)) (cond b q (r - cond g 1 0)) t
  ahead_spending offer t true k true l =
      let some : 1 ≤ r = granted_owed e r offer k in
      let is : e ≡ 1 = eqb-true e 1 l in
      let x : suc t - e ≡ t = omega arith in
      let y = ap (from_start q p) x in
      let m = from_start_turn q p range.0 range.1 t in
      omega arith
  ahead_spending offer t false k true l =
      let not : r < e = withheld_room e r offer time.0 due.1 k in
      let is : e ≡ 1 = eqb-true e 1 l in
      let x : suc t - e ≡ t = omega arith in
      let y = ap (from_start q p) x in
      let m = from_start_turn q p range.0 range.1 t in
      omega arith
  ahead_spending offer t true k false l =
      let some : 1 ≤ r = granted_owed e r offer k in
      let ne : e ≡ 1 → ⊥ = eqb-false e 1 l in
      let x : suc t - e ≡ t - (e - 1) = omega arith in
      let y = ap (from_start q p) x in
      omega arith
  ahead_spending offer t false k false l =
      let not : r < e = withheld_room e r offer time.0 due.1 k in
      let ne : e ≡ 1 → ⊥ = eqb-false e 1 l in
      let x : suc t - e ≡ t - (e - 1) = omega arith in
      let y = ap (from_start q p) x in
      omega arith

  -- and with no offer just so much
  pub ahead-spent : (t : ℕ) (g : Bool) → grants e r false ≡ g → (b : Bool) → (e == 1) ≡ b
      → spent (grant g) + ahead q p (cond b p (e - 1)) (cond b q (r - cond g 1 0)) t ≤ ahead q p e r (suc t)
  ahead-spent t g k true l =
      let is : e ≡ 1 = eqb-true e 1 l in
      let x : suc t - e ≡ t = omega arith in
      let y = ap (from_start q p) x in
      let m = from_start_turn q p range.0 range.1 t in
      spent_last g k m is y
    where
      spent_last : (g : Bool) → grants e r false ≡ g → from_start q p t ≡ min q (t - (p - q)) + from_start q p (t - p) → e ≡ 1 → from_start q p (suc t - e) ≡ from_start q p t
          → spent (grant g) + ahead q p p q t ≤ ahead q p e r (suc t)
      spent_last true k m is y = let full = granted_full e r k in omega arith
      spent_last false k m is y = omega arith
  ahead-spent t true k false l =
      let full : r ≡ e = granted_full e r k in
      let ne : e ≡ 1 → ⊥ = eqb-false e 1 l in
      let x : suc t - e ≡ t - (e - 1) = omega arith in
      let y = ap (from_start q p) x in
      omega arith
  ahead-spent t false k false l =
      let not : r < e = withheld_room e r false time.0 due.1 k in
      let ne : e ≡ 1 → ⊥ = eqb-false e 1 l in
      let x : suc t - e ≡ t - (e - 1) = omega arith in
      let y = ap (from_start q p) x in
      omega arith
