-- A text has one report at most. Assumes nothing.
use Rattle.std.specs.Prelude.{ℕ, List}
use Rattle.decision.specs.Determined.{OneAtMost}
use Rattle.report.specs.Answers.{Judged}

abbrev pub OneReport : Type 0
OneReport = (bs : List ℕ) → OneAtMost (Judged bs)
