-- The job that a granted tick runs: it is pending in its row, and by the laws of an order it goes before every other
-- pending job. Assumes nothing.
use Rattle.std.proofs.Common.{◌≡◌, ℕ, zero, suc, ◌+◌, ◌-◌, ◌<◌, ◌≤◌, Bool, true, false, cond, not, ltb, ◌⊎◌, List, [], ◌∷◌, length, Some, None, Option, sym, refl, ap, ◌∙◌, subst, inl, inr, ⊎_elim, arith}
use Rattle.std.specs.List.{AllByRecursion}
use Rattle.supply.specs.declared.grant.Grant.{Grant}
use Rattle.supply.specs.declared.grant.Grant.TheVariants as grant
use Rattle.dispatch.specs.declared.job.Job.{Job}
use Rattle.dispatch.specs.declared.job.Active.{Active}
use Rattle.dispatch.specs.declared.job.RowState.{RowState}
use Rattle.dispatch.specs.declared.reply.Progress.TheVariants.{Ran, Ended}
use Rattle.dispatch.specs.Jobs.{no_state, state_at, and_job, jobs_of}
use Rattle.dispatch.specs.Ticks.{Goes, sooner, first, progress}
use Rattle.dispatch.specs.Runs.{RunState, progressed}
use Rattle.dispatch.specs.Orderly.{Orderly, OrderlyJob}
use Rattle.dispatch.specs.Laws.{Among, Leads, FollowsOrder}
use Rattle.dispatch.proofs.Lists.{At, at_get_or, at_within}

-- a row with nothing pending, and one with this job

abbrev pub Free : RowState → Type 0
Free r = r.active ≡ None

abbrev pub Has : Active → RowState → Type 0
Has a r = r.active ≡ Some a

-- nothing is chosen only where nothing is pending

cond_not_none : (t : Bool) (a b : Active) → cond t (Some a) (Some b) ≡ None → ⊥
cond_not_none true a b e = cc
cond_not_none false a b e = cc

sooner_none : (goes : Goes) (o p : Option Active) → sooner goes o p ≡ None → (o ≡ None) × (p ≡ None)
sooner_none goes None p e = (refl, e)
sooner_none goes (Some a) None e = absurd cc
sooner_none goes (Some a) (Some b) e = absurd (cond_not_none (goes a.job b.job) a b e)

pub chosen_none_free : (goes : Goes) (rows : List RowState) → first goes rows ≡ None → AllByRecursion Free rows
chosen_none_free goes [] e = tt
chosen_none_free goes (r ∷ rows) e =
    let none = sooner_none goes r.active (first goes rows) e in
    (none.0, chosen_none_free goes rows none.1)

pub free_no_jobs : (rows : List RowState) → AllByRecursion Free rows → jobs_of rows ≡ []
free_no_jobs [] free = refl
free_no_jobs (r ∷ rows) free = ap (λ o. and_job o (jobs_of rows)) free.0 ∙ free_no_jobs rows free.1

pub chosen_none : (goes : Goes) (rows : List RowState) → first goes rows ≡ None → jobs_of rows ≡ []
chosen_none goes rows e = free_no_jobs rows (chosen_none_free goes rows e)

-- what is chosen is pending in its row

cond_either : (t : Bool) (x y a : Active) → cond t (Some x) (Some y) ≡ Some a → (Some x ≡ Some a) ⊎ (Some y ≡ Some a)
cond_either true x y a e = inl e
cond_either false x y a e = inr e

sooner_some : (goes : Goes) (o p : Option Active) (a : Active) → sooner goes o p ≡ Some a → (o ≡ Some a) ⊎ (p ≡ Some a)
sooner_some goes None p a e = inr e
sooner_some goes (Some x) None a e = inl e
sooner_some goes (Some x) (Some b) a e = cond_either (goes x.job b.job) x b a e

-- rows that are numbered from i on
chosen_from : (goes : Goes) (clock i : ℕ) (rows : List RowState) (a : Active) → Orderly clock i rows → first goes rows ≡ Some a
    → (m : ℕ) × (a.job.row ≡ i + m) × At (Has a) m rows
chosen_from goes clock i [] a orderly e = absurd cc
chosen_from goes clock i (r ∷ rows) a orderly e =
    ⊎_elim
    (λ here. let own = subst (OrderlyJob clock i r) here orderly.0 in (0, omega arith, here))
    (λ further. let rest = chosen_from goes clock (suc i) rows a orderly.1 further in (suc rest.0, omega (arith, rest.1), rest.2))
    (sooner_some goes r.active (first goes rows) a e)

pub chosen_at : (goes : Goes) (clock : ℕ) (rows : List RowState) (a : Active) → Orderly clock 1 rows → first goes rows ≡ Some a
    → At (Has a) (a.job.row - 1) rows
chosen_at goes clock rows a orderly e =
    let found = chosen_from goes clock 1 rows a orderly e in
    let place : found.0 ≡ a.job.row - 1 = omega (arith, found.1) in
    subst (λ m. At (Has a) m rows) place found.2

pub chosen_row : (goes : Goes) (clock : ℕ) (rows : List RowState) (a : Active) → Orderly clock 1 rows → first goes rows ≡ Some a
    → (a.job.row - 1 < length rows) × ((state_at rows (a.job.row - 1)).active ≡ Some a) × (1 ≤ a.job.row)
chosen_row goes clock rows a orderly e =
    let at = chosen_at goes clock rows a orderly e in
    let found = chosen_from goes clock 1 rows a orderly e in
    (at_within (Has a) (a.job.row - 1) rows at, at_get_or (Has a) no_state (a.job.row - 1) rows at, omega (arith, found.1))

and_job_here : (o : Option Active) (a : Active) (js : List Job) → o ≡ Some a → Among a.job (and_job o js)
and_job_here o a js e = subst (λ p. Among a.job (and_job p js)) (sym e) (inl refl)

and_job_further : (o : Option Active) (j : Job) (js : List Job) → Among j js → Among j (and_job o js)
and_job_further None j js among = among
and_job_further (Some a) j js among = inr among

pub has_among : (a : Active) (m : ℕ) (rows : List RowState) → At (Has a) m rows → Among a.job (jobs_of rows)
has_among a m [] at = absurd at
has_among a zero (r ∷ rows) at = and_job_here r.active a (jobs_of rows) at
has_among a (suc m) (r ∷ rows) at = and_job_further r.active a.job (jobs_of rows) (has_among a m rows at)

-- it goes before every other pending job

abbrev pub GoesFirst : Goes → Active → List Job → Type 0
GoesFirst goes a js = (k : Job) → Among k js → (k ≡ a.job) ⊎ (goes a.job k ≡ true)

module _ (goes : Goes) (one_first : (a b : Job) → (a.row ≡ b.row → ⊥) → goes a b ≡ not (goes b a))
    (transitive : (a b c : Job) → goes a b ≡ true → goes b c ≡ true → goes a c ≡ true) where
  first_of_two : (t : Bool) (x b a : Active) (js : List Job) → goes x.job b.job ≡ t → (x.job.row ≡ b.job.row → ⊥) → GoesFirst goes b js
      → cond t (Some x) (Some b) ≡ Some a → GoesFirst goes a (x.job ∷ js)
  first_of_two true x b a js test apart before e k among =
      let same : x ≡ a = cc in
      ⊎_elim
      (λ here. inl (sym here ∙ ap (λ (y : Active). y.job) same))
      (λ further. inr (subst (λ (y : Active). goes y.job k ≡ true) same (⊎_elim
      (λ is. ap (goes x.job) is ∙ test)
      (λ goes_on. transitive x.job b.job k test goes_on)
      (before k further))))
      among
  first_of_two false x b a js test apart before e k among =
      let same : b ≡ a = cc in
      subst (λ (y : Active). (k ≡ y.job) ⊎ (goes y.job k ≡ true)) same (⊎_elim
      (λ here. inr (ap (goes b.job) (sym here) ∙ one_first b.job x.job (λ r. apart (sym r)) ∙ ap not test))
      (λ further. before k further)
      among)

  first-sooner : (o p : Option Active) (a : Active) (js : List Job) → ((x b : Active) → o ≡ Some x → p ≡ Some b → x.job.row ≡ b.job.row → ⊥)
      → (p ≡ None → js ≡ []) → ((b : Active) → p ≡ Some b → GoesFirst goes b js) → sooner goes o p ≡ Some a → GoesFirst goes a (and_job o js)
  first-sooner None p a js apart none before e k among = before a e k among
  first-sooner (Some x) None a js apart none before e k among =
      ⊎_elim
      (λ here. let same : x ≡ a = cc in inl (sym here ∙ ap (λ (y : Active). y.job) same))
      (λ further. absurd (subst (Among k) (none refl) further))
      among
  first-sooner (Some x) (Some b) a js apart none before e k among =
      first_of_two (goes x.job b.job) x b a js refl (apart x b refl refl) (before b refl) e k among

  pub chosen_first : (clock i : ℕ) (rows : List RowState) (a : Active) → Orderly clock i rows → first goes rows ≡ Some a → GoesFirst goes a (jobs_of rows)
  chosen_first clock i [] a orderly e = absurd cc
  chosen_first clock i (r ∷ rows) a orderly e =
      first-sooner r.active (first goes rows) a (jobs_of rows)
      (λ x b here further same.
      let own = subst (OrderlyJob clock i r) here orderly.0 in
      let rest = chosen_from goes clock (suc i) rows b orderly.1 further in
      omega (arith, own.0, rest.1))
      (chosen_none goes rows)
      (λ b further. chosen_first clock (suc i) rows b orderly.1 further)
      e

  leads : (clock : ℕ) (rows : List RowState) (a : Active) → Orderly clock 1 rows → first goes rows ≡ Some a → Leads goes a.job.row (jobs_of rows)
  leads clock rows a orderly e = (
    a.job,
    has_among a (a.job.row - 1) rows (chosen_at goes clock rows a orderly e),
    refl,
    λ k among other. ⊎_elim (λ is. absurd (other (ap (λ (j : Job). j.row) is))) (λ before. before) (chosen_first clock 1 rows a orderly e k among),
  )

  follows_either : (t : Bool) (jobs : List Job) (row age : ℕ) → Leads goes row jobs → FollowsOrder goes jobs (cond t (Ran row) (Ended row age))
  follows_either true jobs row age lead = lead
  follows_either false jobs row age lead = lead

  follows_chosen : (g : Grant) (p : Option Active) (clock later : ℕ) (rows : List RowState) → Orderly clock 1 rows → first goes rows ≡ p
      → FollowsOrder goes (jobs_of rows) (progress g p later)
  follows_chosen grant.Withheld p clock later rows orderly e = tt
  follows_chosen grant.Granted None clock later rows orderly e = chosen_none goes rows e
  follows_chosen grant.Granted (Some a) clock later rows orderly e =
      follows_either (ltb (a.ran + 1) a.cost) (jobs_of rows) a.job.row (later - a.job.release) (leads clock rows a orderly e)

  pub follows_order : {S : Type 0} (step : S → Bool → (Grant × S)) (offer : Bool) (st : RunState S) → Orderly st.clock 1 st.rows
      → FollowsOrder goes (jobs_of st.rows) (progressed step goes offer st)
  follows_order step offer st orderly =
      follows_chosen (step st.supply offer).0 (first goes st.rows) st.clock (st.clock + 1) st.rows orderly refl
