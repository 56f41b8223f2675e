use Rattle.std.proofs.Common.{◌≡◌, map, take}
use Rattle.bounded.specs.Items.{items_of}
use Rattle.dispatch.specs.Jobs.{new_row}
use Rattle.run.proofs.rows.never_released.Given as goal

abbrev pub invariant-loop-row : goal.invariant-loop-row
invariant-loop-row l = items_of l.rows ≡ map new_row (take l.row-index l.row-items)
