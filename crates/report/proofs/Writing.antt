-- Writing what is said on a text. Assumes nothing.
use Rattle.std.proofs.Common.{◌≡◌, ℕ, ◌*◌, ◌<◌, ◌≤◌, List, ◌++◌, length, drop, Ok, Err, Result, sym, refl, ap, ◌∙◌, subst, ⊎_elim, arith}
use Rattle.std.specs.List.{AllByRecursion}
use Rattle.std.proofs.lemmas.Bool.{cases_lt, cond-true, lt-ltb}
use Rattle.fault.specs.declared.fault.Fault.{Fault}
use Rattle.fault.specs.declared.rule.Rule.TheVariants.{RoomToWrite}
use Rattle.fault.specs.Rules.{fault_of}
use Rattle.fault.specs.Steps.{and_then}
use Rattle.text.specs.declared.triple.Triple.{Triple}
use Rattle.text.specs.Texts.{Fitting, text_of}
use Rattle.text.specs.Writing.{lines_checked, lines_written, Leaves, Writable}
use Rattle.text.proofs.Checks.{lines_pass}
use Rattle.report.specs.Answers.{report_lines, Judged, Reported}
use Rattle.report.proofs.Reportable.{judged_reportable}

-- there is no room for the longest text
short_checked : (ts : List Triple) (room : ℕ) → room < 425 → lines_checked ts room ≡ Err (fault_of RoomToWrite 0 room)
unfolding lines_checked
short_checked ts room short = cond-true _ _ _ (lt-ltb room 425 short)

pub reported : (bs before after : List ℕ) (r : Result ℕ Fault) (ts : List Triple) (said : Result (List Triple) Fault) → Judged bs said → ts ≡ report_lines said
    → r ≡ lines_written ts (length before) → Leaves r ts before after → Reported bs before after r
reported bs before after r ts said judged is written leaves =
    ⊎_elim
    (λ (short : length before < 425).
    let refused : r ≡ Err (fault_of RoomToWrite 0 (length before)) = written ∙ ap (λ (x : Result Unit Fault). and_then x (λ _. Ok (25 * length ts))) (short_checked ts (length before) short) in
    subst (Reported bs before after) (sym refused) (short, subst (λ x. Leaves x ts before after) refused leaves, refl))
    (λ (room : 425 ≤ length before).
    let can = judged_reportable bs said judged in
    let n : length ts ≡ length (report_lines said) = ap length is in
    let writable : Writable ts (length before) = record { roomy = room; some = omega (arith, can.some); few = omega (arith, can.few); fits = subst (AllByRecursion Fitting) (sym is) can.fits } in
    let checked : lines_checked ts (length before) ≡ Ok tt = lines_pass ts (length before) writable in
    let accepted : r ≡ Ok (25 * length ts) = written ∙ ap (λ (x : Result Unit Fault). and_then x (λ _. Ok (25 * length ts))) checked in
    let left = subst (λ x. Leaves x ts before after) accepted leaves in
    subst (Reported bs before after) (sym accepted) (room, omega (arith, n, can.some), omega (arith, n, can.few), (said, judged, ap (λ (m : ℕ). 25 * m) n, left.0 ∙ ap (λ xs. text_of xs ++ drop (25 * length ts) before) is)))
    (cases_lt (length before) 425)
