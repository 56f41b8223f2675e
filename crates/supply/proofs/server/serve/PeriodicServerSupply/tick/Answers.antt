use Rattle.std.proofs.Common.{◌≡◌, ◌-◌, true, false, cond, eqb, sym, refl, ap, ◌∙◌, arith}
use Rattle.std.proofs.lemmas.Bool.Decides.{nat_tests}
use Rattle.std.proofs.lemmas.Bool.{eq-eqb, ne_eqb}
use Rattle.supply.specs.Grants.{grant}
use Rattle.supply.specs.Server.{server_grants, server_next}
use Rattle.supply.specs.PeriodicLemmas.{same_server}
use Rattle.supply.proofs.server.serve.PeriodicServerSupply.tick.Goals as goal
use Rattle.supply.proofs.server.serve.PeriodicServerSupply.tick.Goals.{then-self-ge1+then-offer, then-self-ge1+else-offer, else-self-ge1, then-granted, else-granted, then-remaining-eq0, else-remaining-eq0}

pub returns : goal.returns
returns c =
    let s = c.args.self.now in
    let g : c.if-self-ge1.granted ≡ server_grants s c.args.offer =
    elim c.if-self-ge1.branch [
      | then-self-ge1+then-offer w ↦ grind (arith, nat_tests, w.granted-is, w.if-self-ge1.true, w.if-offer.true)
      | then-self-ge1+else-offer w ↦ grind (arith, nat_tests, w.granted-is, w.if-self-ge1.true, w.if-offer.false)
      | else-self-ge1 w ↦ grind (arith, nat_tests, w.granted-is, w.if-self-ge1.false)
    ] in
    let owed : c.if-granted.owed ≡ s.owed - cond (server_grants s c.args.offer) 1 0 =
    elim c.if-granted.branch [
      | then-granted w ↦ grind (arith, nat_tests, w.owed-is, w.if-granted.true, g)
      | else-granted w ↦ grind (arith, nat_tests, w.owed-is, w.if-granted.false, g)
    ] in
    let state : c.if-remaining-eq0.self ≡ server_next s c.args.offer =
    elim c.if-remaining-eq0.branch [
      | then-remaining-eq0 w ↦
          let last : eqb s.remaining 1 ≡ true = eq-eqb s.remaining 1 (omega (arith, w.if-remaining-eq0.true)) in
          w.self-is ∙ same_server _ _ refl refl (sym (ap (λ b. cond b s.period (s.remaining - 1)) last)) (sym (ap (λ b. cond b s.budget (s.owed - cond (server_grants s c.args.offer) 1 0)) last))
      | else-remaining-eq0 w ↦
          let more : eqb s.remaining 1 ≡ false = ne_eqb s.remaining 1 (λ z. omega (arith, w.if-remaining-eq0.false)) in
          w.self-is ∙ same_server _ _ refl refl (sym (ap (λ b. cond b s.period (s.remaining - 1)) more)) (owed ∙ sym (ap (λ b. cond b s.budget (s.owed - cond (server_grants s c.args.offer) 1 0)) more))
    ] in
    record { answer = c.from.ensures ∙ ap grant g; state = state }
