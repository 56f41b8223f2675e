-- Orders of jobs that follow a number of each job, and what the chosen job then says of the others. Assumes nothing.
use Rattle.std.proofs.Common.{◌≡◌, ℕ, zero, suc, ◌+◌, ◌<◌, ◌≤◌, Bool, true, false, cond, List, [], ◌∷◌, length, take, Some, None, Option, sym, refl, ap, ◌∙◌, arith}
use Rattle.std.specs.List.{AllByRecursion}
use Rattle.std.proofs.lemmas.List.{length-take, get_or-take}
use Rattle.dispatch.specs.declared.job.Job.{Job}
use Rattle.dispatch.specs.declared.job.Active.{Active}
use Rattle.dispatch.specs.declared.job.RowState.{RowState}
use Rattle.dispatch.specs.Jobs.{no_state, state_at}
use Rattle.dispatch.specs.Ticks.{Goes, sooner, first}
use Rattle.dispatch.specs.Orderly.{Orderly, OrderlyJob}
use Rattle.dispatch.proofs.Lists.{at_get_or, at_of_all}
use Rattle.dispatch.proofs.Chosen.{Free}

-- no job goes before one with a smaller number
abbrev pub By : (Job → ℕ) → Goes → Type 0
By key goes = (a b : Job) → (goes a b ≡ true → key a ≤ key b) × (goes a b ≡ false → key b ≤ key a)

-- the job of the lowest row goes first
abbrev pub ByRow : Goes → Type 0
ByRow goes = By (λ j. j.row) goes

-- the job that is due first goes first
abbrev pub ByDeadline : Goes → Type 0
ByDeadline goes = By (λ j. j.deadline) goes

-- a pending job, if there is one, has a number of at least n
abbrev pub From : (Job → ℕ) → ℕ → Option Active → Type 0
From key n None = Unit {0}
From key n (Some a) = n ≤ key a.job

module _ (key : Job → ℕ) (goes : Goes) (by : By key goes) (n : ℕ) where
  sooner_from : (o p : Option Active) → From key n (sooner goes o p) → From key n o × From key n p
  sooner_from None p from = (tt, from)
  sooner_from (Some a) None from = (from, tt)
  sooner_from (Some a) (Some b) from = either (goes a.job b.job) refl from
    where
      either : (t : Bool) → goes a.job b.job ≡ t → From key n (cond t (Some a) (Some b)) → (n ≤ key a.job) × (n ≤ key b.job)
      either true test from = (from, omega (arith, (by a.job b.job).0 test))
      either false test from = (omega (arith, (by a.job b.job).1 test), from)

  -- where the chosen job has a number of at least n, so has every pending job
  pub chosen_from_all : (rows : List RowState) → From key n (first goes rows) → AllByRecursion (λ r. From key n r.active) rows
  chosen_from_all [] from = tt
  chosen_from_all (r ∷ rows) from =
      let both = sooner_from r.active (first goes rows) from in
      (both.0, chosen_from_all rows both.1)

-- rows that are numbered from i on, with no job of a row below n, are free before n
pub free_before : (clock i n m : ℕ) (rows : List RowState) → i + m ≤ n → Orderly clock i rows → AllByRecursion (λ r. From (λ j. j.row) n r.active) rows → AllByRecursion Free (take m rows)
free_before clock i n zero rows le orderly from = tt
free_before clock i n (suc m) [] le orderly from = tt
free_before clock i n (suc m) (r ∷ rows) le orderly from =
    (here r.active orderly.0 from.0, free_before clock (suc i) n m rows (omega arith) orderly.1 from.1)
  where
    here : (o : Option Active) → OrderlyJob clock i r o → From (λ j. j.row) n o → o ≡ None
    here None own at_least_lem = refl
    here (Some a) own at_least_lem = absurd (omega (arith, own.0))

-- the same at a place
pub free_at_before : (clock n k : ℕ) (rows : List RowState) → k < length rows → k + 1 < n → Orderly clock 1 rows → AllByRecursion (λ r. From (λ j. j.row) n r.active) rows
    → (state_at rows k).active ≡ None
free_at_before clock n k rows lt below orderly from =
    let free = free_before clock 1 n (k + 1) rows (omega arith) orderly from in
    let here = at_get_or Free no_state k (take (k + 1) rows) (at_of_all Free k (take (k + 1) rows) (omega (arith, length-take (k + 1) rows)) free) in
    ap (λ (r : RowState). r.active) (sym (get_or-take (k + 1) rows k no_state (omega arith))) ∙ here
