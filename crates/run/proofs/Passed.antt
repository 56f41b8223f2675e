-- A tick of the job that goes first. Assumes nothing.
use Rattle.std.proofs.Common.{◌≡◌, ℕ, ◌+◌, ◌-◌, ◌≤◌, Bool, List, length, IfSome, Some, None, Option, sym, refl, ap, ◌∙◌, subst, ap₂, arith}
use Rattle.supply.specs.declared.grant.Grant.{Grant}
use Rattle.supply.specs.declared.grant.Grant.TheVariants as grant
use Rattle.dispatch.specs.declared.job.Active.{Active}
use Rattle.dispatch.specs.declared.job.RowState.{RowState}
use Rattle.dispatch.specs.declared.reply.Progress.{Progress}
use Rattle.dispatch.specs.declared.reply.Progress.TheVariants.{Withheld, Idle, Ran, Ended}
use Rattle.dispatch.specs.Progresses.{granted_one, ran_one, idle_one}
use Rattle.dispatch.specs.Jobs.{state_at}
use Rattle.dispatch.specs.Ticks.{Goes, first, served, progress, struck, missed, lowest}
use Rattle.dispatch.specs.Runs.{RunState, credited, progressed, ticked, passed}
use Rattle.dispatch.specs.Orderly.{OrderlyJob, Orderly}
use Rattle.dispatch.proofs.Chosen.{chosen_row}
use Rattle.dispatch.proofs.Keeping.{orderly_at, orderly_passed}
use Rattle.run.specs.Holding.{ticked_by, passed_by}
use Rattle.run.specs.Serving.{Servable, if_granted}

-- the job to run goes first by some order
abbrev First : Grant → List RowState → Option Active → Type 0
First g rows chosen = (goes : Goes) × (chosen ≡ if_granted g (first goes rows))

-- a withheld tick is the same whatever job would have run
served_granted : (g : Grant) (o : Option Active) (rows : List RowState) → served g (if_granted g o) rows ≡ served g o rows
served_granted grant.Withheld o rows = refl
served_granted grant.Granted o rows = refl

progress_granted : (g : Grant) (o : Option Active) (clock : ℕ) → progress g (if_granted g o) clock ≡ progress g o clock
progress_granted grant.Withheld o clock = refl
progress_granted grant.Granted o clock = refl

pub chosen_servable : (clock n : ℕ) (rows : List RowState) (g : Grant) (chosen : Option Active) → length rows ≡ n → Orderly clock 1 rows → First g rows chosen
    → IfSome chosen (Servable (clock + 1) n)
chosen_servable clock n rows g None long orderly f = tt
chosen_servable clock n rows grant.Withheld (Some a) long orderly f = absurd (cc f.1)
chosen_servable clock n rows grant.Granted (Some a) long orderly f =
    let at = chosen_row f.0 clock rows a orderly (sym f.1) in
    let job = subst (OrderlyJob clock (a.job.row - 1 + 1) (state_at rows (a.job.row - 1))) at.1 (orderly_at clock rows orderly (a.job.row - 1) at.0) in record {
      numbered = at.2;
      within = omega arith;
      released = omega (arith, job.3);
      wanting = job.6;
    }

pub chosen_orderly : (clock : ℕ) (rows : List RowState) (g : Grant) (chosen : Option Active) → Orderly clock 1 rows → First g rows chosen
    → Orderly (clock + 1) 1 (struck (clock + 1) (served g chosen rows))
chosen_orderly clock rows g chosen orderly f =
    subst (λ rs. Orderly (clock + 1) 1 (struck (clock + 1) rs)) (sym (ap (λ o. served g o rows) f.1 ∙ served_granted g (first f.0 rows) rows)) (orderly_passed g f.0 clock rows orderly)

pub granted_little : (p : Progress) → granted_one p ≤ 1
granted_little Withheld = omega arith
granted_little Idle = omega arith
granted_little (Ran row) = omega arith
granted_little (Ended row age) = omega arith

abbrev pub with_supply : {S T : Type 0} → T → RunState S → RunState T
with_supply s st = record { clock = st.clock; supply = s; rows = st.rows; granted = st.granted; ran = st.ran; idle = st.idle }

-- a tick of a run, from what its dispatcher was told
module _ {S : Type 0} (step : S → Bool → (Grant × S)) (goes : Goes) (offer : Bool) (st : RunState S) (g : Grant) (chosen : Option Active)
    (grant_is : g ≡ (step st.supply offer).0) (chosen_is : chosen ≡ if_granted g (first goes st.rows)) where
  pub progress_is : progress g chosen (st.clock + 1) ≡ progressed step goes offer st
  progress_is =
      ap (λ o. progress g o (st.clock + 1)) chosen_is ∙ progress_granted g (first goes st.rows) (st.clock + 1) ∙ ap (λ h. progress h (first goes st.rows) (st.clock + 1)) grant_is

  credited_is : served g chosen st.rows ≡ credited step goes offer st
  credited_is = ap (λ o. served g o st.rows) chosen_is ∙ served_granted g (first goes st.rows) st.rows ∙ ap (λ h. served h (first goes st.rows) st.rows) grant_is

  pub ticked_is : ticked_by g chosen st ≡ ticked step goes offer st
  ticked_is = ap₂ (λ p rs. record { progress = p; missed = missed (st.clock + 1) rs; lowest = lowest (st.clock + 1) rs }) progress_is credited_is

  pub passed_is : (s : S) → s ≡ (step st.supply offer).1 → with_supply s (passed_by g chosen st) ≡ passed step goes offer st
  passed_is s is =
      ap (λ x. with_supply x (passed_by g chosen st)) is
      ∙ ap₂ (λ p rs. record {
        clock = st.clock + 1;
        supply = (step st.supply offer).1;
        rows = struck (st.clock + 1) rs;
        granted = st.granted + granted_one p;
        ran = st.ran + ran_one p;
        idle = st.idle + idle_one p;
      }) progress_is credited_is
