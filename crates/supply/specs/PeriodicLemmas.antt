-- The laws of a periodic server, and that its bound is the least number of grants. Assumes nothing.
use Rattle.std.specs.Prelude.{◌≡◌, ℕ, zero, suc, ◌+◌, ◌-◌, ◌*◌, ◌/◌, ◌<◌, ◌≤◌, Bool, true, false, cond, ◌&&◌, List, [], ◌∷◌, length, replicate, ◌==◌, nat_eq, nat_le, refl}
use Rattle.std.proofs.Common.{sym, ap, ap₂, subst, ◌∙◌, ⊎_elim, zero-add, suc-add, div-add-mod', add-one, arith}
use mathlib.Core.HLevel.{is_prop→PathP}
use Rattle.std.proofs.Math.Bridge.{le_prop}
use Rattle.std.proofs.lemmas.List.{length-replicate}
use Rattle.std.proofs.lemmas.Bool.{cases_lt, le-leb, ne_eqb}
use Rattle.supply.specs.declared.server.PeriodicServer.{PeriodicServer}
use Rattle.supply.specs.Grants.{spent}
use Rattle.supply.specs.Runs.{run, granted}
use Rattle.supply.specs.Least.{LeastGrants}
use Rattle.supply.specs.Periodic.{InRange, InPeriod, Owed, periodic_bound}
use Rattle.supply.specs.Server.{server_bound, server_grants, server_next, server_step, server_floor, fresh, WorstCase}
use Rattle.supply.specs.Closed.{from_start, from_start_at, bound_closed}
use Rattle.supply.specs.Ahead.{ahead, ahead_bound, ahead_none, ahead_spending, ahead-spent}
use Rattle.supply.specs.Spending.{granted_floor}

-- servers with the same numbers are the same
pub same_server : (a b : PeriodicServer) → a.budget ≡ b.budget → a.period ≡ b.period → a.remaining ≡ b.remaining → a.owed ≡ b.owed → a ≡ b
same_server a b q p e r j = record {
  budget = q j;
  period = p j;
  remaining = e j;
  owed = r j;
  range = (is_prop→PathP (λ k. 1 ≤ q k) (λ k. le_prop) a.range.0 b.range.0 j, is_prop→PathP (λ k. q k ≤ p k) (λ k. le_prop) a.range.1 b.range.1 j, is_prop→PathP (λ k. p k ≤ 100000) (λ k. le_prop) a.range.2 b.range.2 j);
  time = (is_prop→PathP (λ k. 1 ≤ e k) (λ k. le_prop) a.time.0 b.time.0 j, is_prop→PathP (λ k. e k ≤ p k) (λ k. le_prop) a.time.1 b.time.1 j);
  due = (is_prop→PathP (λ k. r k ≤ q k) (λ k. le_prop) a.due.0 b.due.0 j, is_prop→PathP (λ k. r k ≤ e k) (λ k. le_prop) a.due.1 b.due.1 j, is_prop→PathP (λ k. e k + q k ≤ p k + r k) (λ k. le_prop) a.due.2 b.due.2 j);
}

-- the floor in closed form

abbrev ahead_of : PeriodicServer → ℕ → ℕ
ahead_of s t = ahead s.budget s.period s.remaining s.owed t

spending_of : (s : PeriodicServer) (o : Bool) (t : ℕ) → ahead_of s (suc t) ≤ spent (server_step s o).0 + ahead_of (server_next s o) t
spending_of s o t = ahead_spending s.budget s.period s.remaining s.owed s.range s.time s.due o t (server_grants s o) refl (s.remaining == 1) refl

spent_of : (s : PeriodicServer) (t : ℕ) → spent (server_step s false).0 + ahead_of (server_next s false) t ≤ ahead_of s (suc t)
spent_of s t = ahead-spent s.budget s.period s.remaining s.owed s.range s.time s.due t (server_grants s false) refl (s.remaining == 1) refl

floor_ahead : (t : ℕ) (s : PeriodicServer) → server_floor s t ≡ ahead_of s t
floor_ahead zero s = sym (ahead_none s.budget s.period s.remaining s.owed s.range s.time s.due)
floor_ahead (suc t) s =
    let h : server_floor (server_next s false) t ≡ ahead_of (server_next s false) t = floor_ahead t (server_next s false) in
    let k = spending_of s false t in
    let l = spent_of s t in
    let m : server_floor s (suc t) ≡ spent (server_step s false).0 + ahead_of (server_next s false) t = ap (λ (x : ℕ). spent (server_step s false).0 + x) h in
    omega (arith, m, k, l)

-- the laws

pub server_covered : (s : PeriodicServer) (t : ℕ) → server_bound s t ≤ server_floor s t
server_covered s t = subst (λ (x : ℕ). server_bound s t ≤ x) (sym (floor_ahead t s)) (ahead_bound s.budget s.period s.remaining s.owed s.range s.time s.due t)

pub server_spending : (s : PeriodicServer) (o : Bool) (t : ℕ) → server_floor s (t + 1) ≤ server_floor (server_next s o) t + spent (server_step s o).0
server_spending s o t =
    let x : server_floor s (t + 1) ≡ ahead_of s (suc t) = ap (server_floor s) (add-one t) ∙ floor_ahead (suc t) s in
    let y = floor_ahead t (server_next s o) in
    let k = spending_of s o t in
    omega (arith, x, y, k)

-- a run keeps the budget and the period

run_budget : (os : List Bool) (s : PeriodicServer) → (run server_step s os).budget ≡ s.budget
run_budget [] s = refl
run_budget (o ∷ os) s = run_budget os (server_next s o)

run_period : (os : List Bool) (s : PeriodicServer) → (run server_step s os).period ≡ s.period
run_period [] s = refl
run_period (o ∷ os) s = run_period os (server_next s o)

pub run_bound : (os : List Bool) (s : PeriodicServer) (t : ℕ) → server_bound (run server_step s os) t ≡ server_bound s t
run_bound os s t = ap₂ (λ (x y : ℕ). periodic_bound x y t) (run_budget os s) (run_period os s)

-- within a period, j offers are granted at once
run_offered : (j : ℕ) (s : PeriodicServer) → j ≤ s.owed → j < s.remaining → ((run server_step s (replicate j true)).remaining ≡ s.remaining - j) × ((run server_step s (replicate j true)).owed ≡ s.owed - j)
run_offered zero s h k = (omega arith, omega arith)
run_offered (suc j) s h k =
    let g : nat_le 1 s.owed ≡ true = le-leb 1 s.owed (omega arith) in
    let b : nat_eq s.remaining 1 ≡ false = ne_eqb s.remaining 1 (λ z. omega arith) in
    let gs : server_grants s true ≡ true = ap (λ x. x && true) g in
    let e : (server_next s true).remaining ≡ s.remaining - 1 = ap (λ x. cond x s.period (s.remaining - 1)) b in
    let r : (server_next s true).owed ≡ s.owed - 1 = ap₂ (λ x y. cond x s.budget (s.owed - cond y 1 0)) b gs in
    let h = run_offered j (server_next s true) (omega arith) (omega arith) in
    (omega arith, omega arith)

-- where nothing is offered, just the floor is granted
run_unoffered : (t : ℕ) (s : PeriodicServer) → granted server_step s (replicate t false) ≡ server_floor s t
run_unoffered zero s = refl
run_unoffered (suc t) s = ap (λ (x : ℕ). spent (server_step s false).0 + x) (run_unoffered t (server_next s false))

-- the worst state: a whole budget taken at the start of a period

spent-ahead : (q p e r t : ℕ) → InRange q p → e ≡ p - q → r ≡ 0 → ahead q p e r t ≡ periodic_bound q p t
spent-ahead q p e r t h is none =
    let l = bound_closed q p h.0 h.1 t in
    let m : from_start q p (t - e) ≡ from_start q p (t - (p - q)) = ap (λ (x : ℕ). from_start q p (t - x)) is in
    omega arith

full_ahead : (q p e r t : ℕ) → InRange q p → InPeriod p e → Owed q p e r → q ≡ p → ahead q p e r t ≡ periodic_bound q p t
full_ahead q p e r t h time due is =
    let l = bound_closed q p h.0 h.1 t in
    let all : (u : ℕ) → from_start q p u ≡ u = λ u. (let w = from_start_at q p h.0 h.1 u in let d = div-add-mod' u p in let m : u / p * q ≡ u / p * p = ap (λ (x : ℕ). u / p * x) is in omega arith) in
    let x = all (t - (p - q)) in
    let y = all (t - e) in
    omega arith

abbrev pub worst : (q p : ℕ) → InRange q p → PeriodicServer
worst q p h = run server_step (fresh q p h) (replicate q true)

pub worst_floor : (q p : ℕ) (h : InRange q p) (t : ℕ) → server_floor (worst q p h) t ≡ periodic_bound q p t
worst_floor q p h t =
    let w : PeriodicServer = worst q p h in
    let wq : w.budget ≡ q = run_budget (replicate q true) (fresh q p h) in
    let wp : w.period ≡ p = run_period (replicate q true) (fresh q p h) in
    let same : server_bound w t ≡ periodic_bound q p t = run_bound (replicate q true) (fresh q p h) t in
    ⊎_elim
    (λ (k : q < p).
    let f = run_offered q (fresh q p h) (omega arith) (omega arith) in
    floor_ahead t w ∙ spent-ahead w.budget w.period w.remaining w.owed t w.range (omega arith) (omega arith) ∙ same)
    (λ (k : p ≤ q). floor_ahead t w ∙ full_ahead w.budget w.period w.remaining w.owed t w.range w.time w.due (omega arith) ∙ same)
    (cases_lt q p)

pub worst_case : (q p : ℕ) (h : InRange q p) → WorstCase (fresh q p h)
worst_case q p h t = run_unoffered t (worst q p h) ∙ worst_floor q p h t

-- the bound is the least number of grants
pub least_grants : (q p : ℕ) (h : InRange q p) → LeastGrants (periodic_bound q p) server_step (fresh q p h)
least_grants q p h = record {
  never_less = λ before offers.
      let s : PeriodicServer = run server_step (fresh q p h) before in
      let same = run_bound before (fresh q p h) (length offers) in
      let k = server_covered s (length offers) in
      let o = granted_floor server_floor server_step (λ s. refl) server_spending offers s in
      omega (arith, same, k, o);
  reached = λ t. (replicate q true, replicate t false, length-replicate t false, worst_case q p h t);
}

-- the floor of a + b ticks is that of a, and then that of b
floor_split : (a b : ℕ) (s : PeriodicServer) → server_floor s (a + b) ≡ server_floor s a + server_floor (run server_step s (replicate a false)) b
floor_split zero b s = ap (server_floor s) (zero-add b) ∙ sym (zero-add (server_floor s b))
floor_split (suc a) b s =
    let n : PeriodicServer = server_next s false in
    let e : server_floor s (suc a + b) ≡ server_floor s (suc (a + b)) = ap (server_floor s) (suc-add a b) in
    let h : server_floor n (a + b) ≡ server_floor n a + server_floor (run server_step n (replicate a false)) b = floor_split a b n in
    let m : server_floor s (suc (a + b)) ≡ spent (server_step s false).0 + server_floor n (a + b) = refl in
    let k : server_floor s (suc a) ≡ spent (server_step s false).0 + server_floor n a = refl in
    omega (arith, e, h, m, k)

pub server_superadditive : (s : PeriodicServer) (a b : ℕ) → server_bound s a + server_bound s b ≤ server_bound s (a + b)
server_superadditive s a b =
    let w : PeriodicServer = worst s.budget s.period s.range in
    let v : PeriodicServer = run server_step w (replicate a false) in
    let same : server_bound v b ≡ server_bound s b = run_bound (replicate a false) w b ∙ run_bound (replicate s.budget true) (fresh s.budget s.period s.range) b in
    let x : server_floor w (a + b) ≡ server_bound s (a + b) = worst_floor s.budget s.period s.range (a + b) in
    let y : server_floor w a ≡ server_bound s a = worst_floor s.budget s.period s.range a in
    let z : server_bound v b ≤ server_floor v b = server_covered v b in
    let k = floor_split a b w in
    omega (arith, same, x, y, z, k)
