use Rattle.report.proofs.Unique.{one_report}
use Rattle.report.proofs.determined.reports_are_determined.Goals as goal

pub returns : goal.returns
returns c = one_report
