-- The items that a `Bounded` holds. Assumes nothing.
use Rattle.std.specs.Prelude.{◌≡◌, ℕ, ◌<◌, List, [], ◌∷◌, ◌++◌, length, take, Ok, Err, Result}
use Rattle.bounded.specs.declared.bounded.Bounded.{Bounded}
use Rattle.bounded.specs.declared.bounded.Full.{Full}

abbrev pub items_of : {T : Type 0} {N : ℕ} → Bounded T N → List T
items_of b = take b.count b.slots

-- the item is put last where there are fewer than N; else it is refused, and nothing changes
abbrev pub Pushed : {T : Type 0} {N : ℕ} → Bounded T N → T → Bounded T N → Result Unit Full → Type 0
Pushed {N = N} b x c (Ok _) = (length (items_of b) < N) × (items_of c ≡ items_of b ++ x ∷ [])
Pushed {N = N} b x c (Err _) = (length (items_of b) ≡ N) × (c ≡ b)
