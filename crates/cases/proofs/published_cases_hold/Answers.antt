use Rattle.cases.proofs.Published.{server_bounds, two_rows_hold, three_rows_hold, short_deadline_holds, small_budget_holds, full_processor_holds, over_full_holds, no_rows_hold}
use Rattle.cases.proofs.published_cases_hold.Goals as goal

pub returns : goal.returns
returns c = record {
  server_bounds = server_bounds;
  two_rows = two_rows_hold;
  three_rows = three_rows_hold;
  short_deadline = short_deadline_holds;
  small_budget = small_budget_holds;
  full_processor = full_processor_holds;
  over_full = over_full_holds;
  no_rows = no_rows_hold;
}
