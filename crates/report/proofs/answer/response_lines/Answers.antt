use Rattle.std.proofs.Common.{ap, ⊎_elim, inl, inr, ◌∙◌, ◌∷◌, [], length, Ok, arith}
use Rattle.report.specs.Answers.{triple}
use Rattle.report.proofs.Lines.{lines_more, lines_room, lines_all}
use Rattle.report.proofs.answer.response_lines.Goals as goal

pub loop-i-init : goal.loop-i-init
loop-i-init c =
    rw (c.into_iter-i-iterator.ensures.into_iter_gives, c.enumerate-i-items.ensures.source, c.enumerate-i-items.ensures.count, c.zip.ensures.first, c.iter.ensures.rest)
    (record { told = c.one-lines.ensures ∙ ap (λ n. triple 0 n 0 ∷ []) (ap length c.rows-rows.ensures.rows); within = omega arith; next_rows = c.rows-rows.ensures.rows; next_responses = c.zip.ensures.second.0 ∙ c.times.ensures.times })

pub loop-i-preserved : goal.loop-i-preserved
loop-i-preserved c =
    let next = c.in-Some.ensures.steps in
    rw (c.in_ok-push.ensures.1, next.1, next.2) (lines_more _ _ _ _ _ _ _ _ (rw (next.0.0, next.0.1) at c.loop-i.invariant))

pub returns-in_err-push : goal.returns-in_err-push
returns-in_err-push c =
    let next = c.in-Some.ensures.steps in
    absurd (lines_room _ _ _ _ _ _ _ (rw next.0.0 at c.loop-i.invariant) (omega (arith, c.rows-rows.ensures.few, ap length c.rows-rows.ensures.rows)) c.in_err-push.ensures.0)

pub returns : goal.returns
returns c =
    let last = c.in-None.ensures.steps in
    ap Ok (lines_all _ _ _ _ _ _ c.loop-i.invariant c.requires (⊎_elim (λ r. inl r.1.0) (λ t. inr t.1.0) last.0))
