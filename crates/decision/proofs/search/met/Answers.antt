use Rattle.std.proofs.Common.{◌≤◌, arith}
use native.Mathlib.Decide.{dec_lt}
use Rattle.decision.specs.Least.{NoneIn}
use Rattle.decision.proofs.search.met.Goals as goal

pub returns-in_err-next : goal.returns-in_err-next
returns-in_err-next g c =
    let none : NoneIn (λ t. g.A.Curve.height c.args.asked.now t ≤ g.G.Curve.height c.args.given.now t) c.args.from c.args.last = λ k lo hi h.
    elim (dec_lt k c.loop-t.t) [
      | yes q ↦ c.loop-t.invariant.1 k lo q h
      | no q ↦ c.in_err-next.ensures k (omega arith) hi (omega (arith, c.at.ensures, g.met.A.Curve.rises c.args.asked.now c.loop-t.t k (omega arith)))
    ] in
    rw c.from_residual.ensures none

pub loop-t-preserved : goal.loop-t-preserved
loop-t-preserved g c =
    let found = c.in_ok-next.ensures in (
      omega (arith, c.loop-t.invariant.0, found.from),
      λ k lo lt h. elim (dec_lt k c.loop-t.t) [
        | yes q ↦ c.loop-t.invariant.1 k lo q h
        | no q ↦ found.before k (omega arith) lt (omega (arith, c.at.ensures, g.met.A.Curve.rises c.args.asked.now c.loop-t.t k (omega arith)))
      ],
    )
