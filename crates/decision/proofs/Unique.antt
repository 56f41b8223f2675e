-- Each decision has one answer at most. Assumes nothing.
use Rattle.std.proofs.Common.{◌≡◌, ℕ, List, Ok, Err, sym, ap, ◌∙◌, inl, inr, arith}
use Rattle.std.proofs.lemmas.List.{ext_get_or}
use Rattle.arith.proofs.Orders.{neither_below}
use Rattle.fault.specs.declared.rule.Rule.TheVariants.{NoOverload}
use Rattle.fault.specs.Rules.{fault_of}
use Rattle.table.specs.declared.row.Row.{Row}
use Rattle.decision.specs.Least.{Least, NoneIn}
use Rattle.decision.specs.Decisions.{FirstOverload, miss_fault}
use Rattle.decision.specs.Determined.{OneWindow, OnePriority, OneSchedule}

least_same : (P : ℕ → Type 0) (low high a b : ℕ) → Least P low high a → Least P low high b → a ≡ b
least_same P low high a b p q = neither_below a b (λ h. q.before a p.from h p.holds) (λ h. p.before b q.from h q.holds)

least_some : (P : ℕ → Type 0) (low high a : ℕ) → Least P low high a → NoneIn P low high → ⊥
least_some P low high a p none = none a p.from p.to p.holds

pub one_window : OneWindow
one_window rs B (Ok a) (Ok b) p q = ap Ok (least_same _ _ _ a b p q)
one_window rs B (Ok a) (Err g) p q = absurd (least_some _ _ _ a p q.0)
one_window rs B (Err f) (Ok b) p q = absurd (least_some _ _ _ b q p.0)
one_window rs B (Err f) (Err g) p q = ap Err (p.1 ∙ sym q.1)

overload_same : (rs : List Row) (B : ℕ → ℕ) (a b : ℕ) → FirstOverload rs B a → FirstOverload rs B b → a ≡ b
overload_same rs B a b p q = neither_below a b (λ h. omega (arith, q.1 a h)) (λ h. omega (arith, p.1 b h))

pub one_schedule : OneSchedule
one_schedule rs B (Ok a) (Ok b) p q = ap Ok (least_same _ _ _ a b p.0 q.0)
one_schedule rs B (Ok a) (Err g) p (inl q) = absurd (least_some _ _ _ a p.0 q.0)
one_schedule rs B (Ok a) (Err g) p (inr q) = absurd (omega (arith, p.1 q.1, q.4.0))
one_schedule rs B (Err f) (Ok b) (inl p) q = absurd (least_some _ _ _ b q.0 p.0)
one_schedule rs B (Err f) (Ok b) (inr p) q = absurd (omega (arith, q.1 p.1, p.4.0))
one_schedule rs B (Err f) (Err g) (inl p) (inl q) = ap Err (p.1 ∙ sym q.1)
one_schedule rs B (Err f) (Err g) (inl p) (inr q) = absurd (least_some _ _ _ q.0 q.2 p.0)
one_schedule rs B (Err f) (Err g) (inr p) (inl q) = absurd (least_some _ _ _ p.0 p.2 q.0)
one_schedule rs B (Err f) (Err g) (inr p) (inr q) =
    ap Err (p.5 ∙ ap (fault_of NoOverload 0) (overload_same rs B p.1 q.1 p.4 q.4) ∙ sym q.5)

pub one_priority : OnePriority
one_priority rs B (Ok a) (Ok b) p q =
    ap Ok (ext_get_or 0 _ _ (p.0 ∙ sym q.0) (λ i h. least_same _ _ _ _ _ (p.1 i (omega (arith, p.0))) (q.1 i (omega (arith, p.0)))))
one_priority rs B (Ok a) (Err g) p q = absurd (least_some _ _ _ _ (p.1 q.0 q.1) q.3)
one_priority rs B (Err f) (Ok b) p q = absurd (least_some _ _ _ _ (q.1 p.0 p.1) p.3)
one_priority rs B (Err f) (Err g) p q =
    let e : p.0 ≡ q.0 = neither_below p.0 q.0
    (λ h. let r = q.2 p.0 h in least_some _ _ _ r.0 r.1 p.3)
    (λ h. let r = p.2 q.0 h in least_some _ _ _ r.0 r.1 q.3) in
    ap Err (p.4 ∙ ap (miss_fault rs) e ∙ sym q.4)
