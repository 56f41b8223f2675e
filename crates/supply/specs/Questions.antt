-- What the bound question answers. Assumes nothing.
use Rattle.std.specs.Prelude.{◌≡◌, ℕ, ◌<◌, ◌≤◌, Some, None, Option}

-- the bound b of t ticks, for t up to a million, and nothing for a larger t
abbrev pub Answers : Option ℕ → ℕ → ℕ → Type 0
Answers (Some n) t b = (t ≤ 1000000) × (n ≡ b)
Answers None t b = 1000000 < t
