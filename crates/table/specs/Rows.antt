-- The bounds of a row, and how often it is released and due. Assumes nothing.
use Rattle.std.specs.Prelude.{◌≡◌, ℕ, ◌+◌, ◌-◌, ◌/◌, ◌≤◌}
use Rattle.arith.specs.Quotients.{ceiling}
use Rattle.table.specs.declared.row.Row.{Row}

-- 1 ≤ C ≤ D ≤ T ≤ 100,000
abbrev pub InBounds : ℕ → ℕ → ℕ → Type 0
InBounds cost period deadline = (1 ≤ cost) × (cost ≤ deadline) × (deadline ≤ period) × (period ≤ 100000)

abbrev pub RowIs : ℕ → ℕ → ℕ → Row → Type 0
RowIs cost period deadline r = (r.cost ≡ cost) × (r.period ≡ period) × (r.deadline ≡ deadline)

-- how many jobs of a row can be released in t ticks: ⌈t / T⌉
unfoldable pub releases_in : ℕ → Row → ℕ
releases_in t r = ceiling t r.period

-- how many jobs of a row can be released and due within t ticks: ⌊(t + T − D) / T⌋, which is never below 0 as D ≤ T
unfoldable pub deadlines_by : ℕ → Row → ℕ
deadlines_by t r = (t + r.period - r.deadline) / r.period
