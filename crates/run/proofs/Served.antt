-- What crediting a tick's work comes to, as the code does it. Assumes nothing.
use Rattle.std.proofs.Common.{◌≡◌, ℕ, ◌+◌, ◌-◌, ◌<◌, ◌≤◌, cond, List, length, get_or, set, IfSome, Some, None, Option, sym, refl, ap, ◌∙◌, subst, subst₂, arith, le-ltb, lt-ltb}
use Rattle.supply.specs.declared.grant.Grant.{Grant}
use Rattle.supply.specs.declared.grant.Grant.TheVariants.{Granted}
use Rattle.dispatch.specs.declared.job.Active.{Active}
use Rattle.dispatch.specs.declared.job.RowState.{RowState}
use Rattle.dispatch.specs.Jobs.{with_active}
use Rattle.dispatch.specs.Ticks.{worked, served}
use Rattle.dispatch.proofs.Lists.{change_set}
use Rattle.run.specs.Serving.{Servable}

module _ (rows : List RowState) (clock : ℕ) (a : Active) (g : Grant) (chosen : Option Active) (granted : g ≡ Granted) (is : chosen ≡ Some a)
    (pre : IfSome chosen (Servable clock (length rows))) where
  pub servable : Servable clock (length rows) a
  servable = subst (λ o. IfSome o (Servable clock (length rows))) is pre

  -- the row of the job that ran, where it now has `o`
  written : (x : RowState) → x ≡ get_or rows (a.job.row - 1) x → (o : Option Active) → o ≡ worked a
      → set rows (a.job.row - 1) (with_active o (get_or rows (a.job.row - 1) x)) ≡ served g chosen rows
  written x at o so =
      let s = servable in
      ap (λ y. set rows (a.job.row - 1) (with_active o y)) (sym at)
      ∙ ap (λ p. set rows (a.job.row - 1) (with_active p x)) so
      ∙ change_set (with_active (worked a)) rows (a.job.row - 1) x (omega arith) at
      ∙ subst₂ (λ h p. served Granted (Some a) rows ≡ served h p rows) (sym granted) (sym is) refl

  -- it still wants ticks
  module _ (more : a.ran + 1 < a.cost) (x : RowState) (at : x ≡ get_or rows (a.job.row - 1) x) where
    pub ran_rows : set rows (a.job.row - 1) (with_active (Some (record { job = a.job; cost = a.cost; ran = a.ran + 1 })) (get_or rows (a.job.row - 1) x)) ≡ served g chosen rows
    ran_rows = written x at _ (ap (λ b. cond b (Some (record { job = a.job; cost = a.cost; ran = a.ran + 1 })) None) (sym (lt-ltb (a.ran + 1) a.cost more)))

  -- it has had its C ticks
  module _ (done : a.cost ≤ a.ran + 1) (x : RowState) (at : x ≡ get_or rows (a.job.row - 1) x) where
    pub ended_rows : set rows (a.job.row - 1) (with_active None (get_or rows (a.job.row - 1) x)) ≡ served g chosen rows
    ended_rows = written x at None (ap (λ b. cond b (Some (record { job = a.job; cost = a.cost; ran = a.ran + 1 })) None) (sym (le-ltb (a.ran + 1) a.cost done)))
