-- The ranges of a server's numbers are kept from tick to tick. Assumes nothing.
use Rattle.std.specs.Prelude.{◌≡◌, ℕ, ◌-◌, ◌<◌, ◌≤◌, Bool, true, false, cond, ◌||◌, ◌==◌, nat_le}
use Rattle.std.proofs.Common.{⊎_elim, arith}
use Rattle.std.proofs.lemmas.Bool.{leb-true, leb-false, eqb-false, and_parts, and_cases, or_parts}
use Rattle.supply.specs.Periodic.{InRange, InPeriod, Owed, grants}

pub granted_owed : (remaining owed : ℕ) (offer : Bool) → grants remaining owed offer ≡ true → 1 ≤ owed
granted_owed remaining owed offer h = leb-true 1 owed (and_parts (nat_le 1 owed) (offer || owed == remaining) h).0

pub withheld_room : (remaining owed : ℕ) (offer : Bool) → 1 ≤ remaining → owed ≤ remaining → grants remaining owed offer ≡ false → owed < remaining
withheld_room remaining owed offer one le h =
    ⊎_elim (λ z. let k : owed < 1 = leb-false 1 owed z in omega arith)
    (λ z. let k : owed ≡ remaining → ⊥ = eqb-false owed remaining (or_parts offer (owed == remaining) z).1 in omega arith)
    (and_cases (nat_le 1 owed) (offer || owed == remaining) h)

pub time_after : (p e : ℕ) → InPeriod p e → (b : Bool) → (e == 1) ≡ b → InPeriod p (cond b p (e - 1))
time_after p e h true k = (omega arith, omega arith)
time_after p e h false k = let ne : e ≡ 1 → ⊥ = eqb-false e 1 k in (omega arith, omega arith)

pub due_after : (q p e r : ℕ) → InRange q p → InPeriod p e → Owed q p e r → (offer : Bool)
    → (g : Bool) → grants e r offer ≡ g → (b : Bool) → (e == 1) ≡ b
    → Owed q p (cond b p (e - 1)) (cond b q (r - cond g 1 0))
due_after q p e r range time due offer g k true l = (omega arith, omega arith, omega arith)
due_after q p e r range time due offer true k false l =
    let some : 1 ≤ r = granted_owed e r offer k in
    let ne : e ≡ 1 → ⊥ = eqb-false e 1 l in (omega arith, omega arith, omega arith)
due_after q p e r range time due offer false k false l =
    let some : r < e = withheld_room e r offer time.0 due.1 k in
    let ne : e ≡ 1 → ⊥ = eqb-false e 1 l in (omega arith, omega arith, omega arith)
