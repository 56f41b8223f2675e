-- Least times found by a walk that the checker computes. Assumes nothing.
use Rattle.std.proofs.Common.{◌≡◌, ℕ, zero, suc, ◌+◌, ◌<◌, ◌≤◌, Bool, true, ◌&&◌, ltb, leb, List, arith}
use native.Mathlib.Decide.{dec_lt}
use Rattle.std.proofs.lemmas.Bool.{leb-true, ltb-true, and_parts}
use Rattle.table.specs.declared.row.Row.{Row}
use Rattle.table.specs.Sums.{demand}
use Rattle.decision.specs.Least.{Least, NoneIn}
use Rattle.decision.specs.Decisions.{Window, DemandMet}
use Rattle.decision.proofs.Windows.{demand_met}

-- at each of the times from 1 to n more is asked than is given
unfoldable pub short_until : (ℕ → ℕ) → (ℕ → ℕ) → ℕ → Bool
short_until asked given zero = true
short_until asked given (suc n) = ltb (given (suc n)) (asked (suc n)) && short_until asked given n

-- at each of the times below n no more is asked than is given
unfoldable pub met_below : (ℕ → ℕ) → (ℕ → ℕ) → ℕ → Bool
met_below asked given zero = true
met_below asked given (suc n) = leb (asked n) (given n) && met_below asked given n

pub none_by_walk : (asked given : ℕ → ℕ) (n : ℕ) → short_until asked given n ≡ true → NoneIn (λ t. asked t ≤ given t) 1 n
unfolding short_until
none_by_walk asked given zero walk k low high h = omega arith
none_by_walk asked given (suc n) walk k low high h =
    let parts = and_parts (ltb (given (suc n)) (asked (suc n))) (short_until asked given n) walk in
    elim (dec_lt k (suc n)) [
      | yes q ↦ none_by_walk asked given n parts.1 k low (omega arith) h
      | no q ↦
          let last : given (suc n) < asked (suc n) = ltb-true (given (suc n)) (asked (suc n)) parts.0 in
          let e : k ≡ suc n = omega arith in
          let here : asked (suc n) ≤ given (suc n) = rw e at h in
          omega arith
    ]

pub least_by_walk : (asked given : ℕ → ℕ) (n high : ℕ) → short_until asked given n ≡ true → leb (asked (suc n)) (given (suc n)) ≡ true → suc n ≤ high
    → Least (λ t. asked t ≤ given t) 1 high (suc n)
least_by_walk asked given n high walk here within = record {
  from = omega arith;
  to = within;
  holds = leb-true (asked (suc n)) (given (suc n)) here;
  before = λ k low lt h. none_by_walk asked given n walk k low (omega arith) h;
}

met_by_walk : (asked given : ℕ → ℕ) (n : ℕ) → met_below asked given n ≡ true → (t : ℕ) → t < n → asked t ≤ given t
unfolding met_below
met_by_walk asked given zero walk t lt = absurd (omega arith)
met_by_walk asked given (suc n) walk t lt =
    let parts = and_parts (leb (asked n) (given n)) (met_below asked given n) walk in
    elim (dec_lt t n) [
      | yes q ↦ met_by_walk asked given n parts.1 t q
      | no q ↦
          let last : asked n ≤ given n = leb-true (asked n) (given n) parts.0 in
          let e : n ≡ t = omega arith in
          rw e at last
    ]

-- a walk below the window shows that demand is met for ever
pub met_by_window : (rs : List Row) (B : ℕ → ℕ) → ((a b : ℕ) → B a + B b ≤ B (a + b)) → (l : ℕ) → Window rs B l → met_below (demand rs) B l ≡ true → DemandMet rs B
met_by_window rs B superadditive l w walk t =
    demand_met rs B superadditive l w.from w.holds (met_by_walk (demand rs) B l walk) (t + 1) t (omega arith)
