use Rattle.std.proofs.Common.{sym, refl, subst, arith}
use Rattle.supply.specs.Least.{LeastGrants}
use Rattle.supply.specs.Periodic.{InRange}
use Rattle.supply.specs.Server.{fresh, server_bound, server_step, WorstCase}
use Rattle.supply.specs.PeriodicLemmas.{same_server, least_grants, worst_case}
use Rattle.supply.proofs.server.PeriodicServer.new.Goals as goal

pub returns : goal.returns
returns c =
    let h : InRange c.args.budget c.args.period = (omega arith, omega arith, omega arith) in
    let is = same_server _ (fresh c.args.budget c.args.period h) refl refl refl refl in
    record {
      fresh = (h, is);
      least = subst (λ s. LeastGrants (server_bound s) server_step s) (sym is) (least_grants c.args.budget c.args.period h);
      worst = subst WorstCase (sym is) (worst_case c.args.budget c.args.period h);
    }
