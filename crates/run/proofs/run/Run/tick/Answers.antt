use Rattle.std.proofs.Common.{◌+◌, sym, ap, ◌∙◌, subst, subst₂}
use Rattle.order.specs.Orders.{goes_by}
use Rattle.dispatch.specs.declared.reply.Ticked.{Ticked}
use Rattle.dispatch.specs.Jobs.{jobs_of}
use Rattle.dispatch.specs.Laws.{FollowsOrder, JobsLive}
use Rattle.dispatch.proofs.Chosen.{follows_order}
use Rattle.dispatch.proofs.Keeping.{orderly_out}
use Rattle.dispatch.proofs.Lives.{jobs_live}
use Rattle.run.specs.View.{state_of}
use Rattle.run.proofs.Passed.{with_supply, ticked_is, passed_is}
use Rattle.run.proofs.run.Run.tick.Goals as goal

pub returns-clause-first : goal.returns-clause-first
returns-clause-first g c =
    let st = state_of c.args.self.now in
    let d = c.args.self.now.dispatcher in
    let step = g.S.Supply.step in
    let order = c.args.self.now.order in
    let goes = goes_by g.O.Order.keyed g.O.Order.before order in
    let offer = c.args.offer in
    let ticked_so = c.pass.ensures.answer ∙ ticked_is step goes offer st c.tick-grant.result c.chosen-chosen.result c.tick-grant.ensures.answer c.chosen-chosen.ensures in
    subst (FollowsOrder goes (jobs_of st.rows)) (sym (ap (λ (t : Ticked). t.progress) ticked_so))
    (follows_order goes (g.met.O.Order.one_first order) (g.met.O.Order.transitive order) step offer st (orderly_out d.clock 1 st.rows d.orderly))

pub returns-clause-lives : goal.returns-clause-lives
returns-clause-lives g c =
    let st = state_of c.args.self.now in
    let d = c.args.self.now.dispatcher in
    let step = g.S.Supply.step in
    let goes = goes_by g.O.Order.keyed g.O.Order.before c.args.self.now.order in
    let offer = c.args.offer in
    let grant = c.tick-grant.result in
    let chosen = c.chosen-chosen.result in
    let granted = c.tick-grant.ensures.answer in
    let first = c.chosen-chosen.ensures in
    let ticked_so = c.pass.ensures.answer ∙ ticked_is step goes offer st grant chosen granted first in
    let passed_so = ap (with_supply c.tick-grant.new.self) c.pass.ensures.state ∙ passed_is step goes offer st grant chosen granted first c.tick-grant.new.self c.tick-grant.ensures.state in
    subst₂ (λ p rs. JobsLive (st.clock + 1) p st.rows rs) (sym (ap (λ (t : Ticked). t.progress) ticked_so)) (sym (ap (λ s. s.rows) passed_so))
    (jobs_live step goes offer st (orderly_out d.clock 1 st.rows d.orderly))
