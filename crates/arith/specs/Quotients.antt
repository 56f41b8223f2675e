-- Quotients rounded up. Assumes nothing.
use Rattle.std.specs.Prelude.{ℕ, ◌+◌, ◌-◌, ◌/◌}

-- ⌈a / m⌉, for m above 0
unfoldable pub ceiling : ℕ → ℕ → ℕ
ceiling a m = (a + (m - 1)) / m
