-- A fixing's steps by name. Assumes nothing.
use Rattle.std.specs.Prelude.{ℕ, cond, List, codes, ◌==◌}

-- the name of row n of a fixing's table, counted from 1: from the feed socket to the trader's cell
abbrev pub step_name : ℕ → List ℕ
step_name n =
    cond (n == 1) (codes "feed")
    (cond (n == 2) (codes "parser")
    (cond (n == 3) (codes "curve")
    (cond (n == 4) (codes "pricer")
    (cond (n == 5) (codes "cell") (codes "further step")))))
