-- What the rows of a table can ask of a supply in t ticks. Assumes nothing.
use Rattle.std.specs.Prelude.{ℕ, ◌+◌, ◌*◌, List, take, slice_index_or, sum_by}
use Rattle.std.proofs.Common.{arith}
use Rattle.table.specs.declared.row.Row.{Row}
use Rattle.table.specs.Rows.{releases_in, deadlines_by}

-- S(t): the work that can be released in t ticks, over all rows the sum of ⌈t / T⌉ · C
unfoldable pub requested : List Row → ℕ → ℕ
requested rs t = sum_by (λ r. releases_in t r * r.cost) rs

-- stands where a table has no row
abbrev pub no_row : Row
no_row = record { cost = 1; period = 1; deadline = 1; work = (omega arith, omega arith); time = (omega arith, omega arith) }

-- row i, counted from 0
abbrev pub row_at : List Row → ℕ → Row
row_at rs i = slice_index_or rs i no_row

-- W(i, t): the cost of row i, and what the rows before it can release in t ticks; rows are counted from 0
unfoldable pub workload : List Row → ℕ → ℕ → ℕ
workload rs i t = (row_at rs i).cost + requested (take i rs) t

-- H(t): the work that can be released and due within t ticks, over all rows the sum of ⌊(t + T − D) / T⌋ · C
unfoldable pub demand : List Row → ℕ → ℕ
demand rs t = sum_by (λ r. deadlines_by t r * r.cost) rs
