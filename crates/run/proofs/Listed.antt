-- Listing the pending jobs, as the code does it, from the first row to the last. Assumes nothing.
use Rattle.std.proofs.Common.{◌≡◌, ℕ, suc, ◌+◌, ◌<◌, ◌≤◌, cond, List, [], ◌∷◌, ◌++◌, length, get_or, take, drop, set, None, Some, Option, refl, sym, ap, ◌∙◌, append_assoc, append-nil, arith, length-append}
use Rattle.std.specs.List.{filter}
use Rattle.std.specs.Option.{is_some}
use Rattle.std.proofs.Math.Seq.{set-append_seam}
use Rattle.std.proofs.lemmas.List.{take_more, drop_more, take-append-drop}
use Rattle.dispatch.specs.declared.job.Job.{Job}
use Rattle.dispatch.specs.declared.job.Active.{Active}
use Rattle.dispatch.specs.declared.job.RowState.{RowState}
use Rattle.dispatch.specs.Jobs.{and_job, jobs_of}

one_counted : (o : Option Active) (r : RowState) (rows : List RowState) (js : List Job) → length rows ≡ length js → length (cond (is_some o) (r ∷ rows) rows) ≡ length (and_job o js)
one_counted None r rows js e = e
one_counted (Some a) r rows js e = ap suc e

-- as many as the rows that have one
pub jobs_counted : (rows : List RowState) → length (filter (λ r. is_some r.active) rows) ≡ length (jobs_of rows)
jobs_counted [] = refl
jobs_counted (r ∷ rows) = one_counted r.active r _ (jobs_of rows) (jobs_counted rows)

one_job : (o : Option Active) (js : List Job) → length (and_job o js) ≤ suc (length js)
one_job None js = omega arith
one_job (Some a) js = omega arith

-- no more jobs than rows
pub jobs_few : (rows : List RowState) → length (jobs_of rows) ≤ length rows
jobs_few [] = omega arith
jobs_few (r ∷ rows) = omega (arith, one_job r.active (jobs_of rows), jobs_few rows)

and_job-append : (o : Option Active) (js ks : List Job) → and_job o (js ++ ks) ≡ and_job o js ++ ks
and_job-append None js ks = refl
and_job-append (Some a) js ks = refl

jobs-append : (rows more : List RowState) → jobs_of (rows ++ more) ≡ jobs_of rows ++ jobs_of more
jobs-append [] more = refl
jobs-append (r ∷ rows) more = ap (and_job r.active) (jobs-append rows more) ∙ and_job-append r.active (jobs_of rows) (jobs_of more)

-- a turn of the loop, at row i
module _ (i : ℕ) (rows : List RowState) (r : RowState) (lt : i < length rows) (read : r ≡ get_or rows i r) where
  next : jobs_of (take (i + 1) rows) ≡ jobs_of (take i rows) ++ and_job r.active []
  next =
      ap jobs_of (take_more rows i r lt) ∙ jobs-append (take i rows) (get_or rows i r ∷ [])
      ∙ ap (λ (x : RowState). jobs_of (take i rows) ++ and_job x.active []) (sym read)

  pub turn_none : r.active ≡ None → jobs_of (take (i + 1) rows) ≡ jobs_of (take i rows)
  turn_none none = next ∙ ap (λ o. jobs_of (take i rows) ++ and_job o []) none ∙ append-nil (jobs_of (take i rows))

  module _ (a : Active) (has : r.active ≡ Some a) where
    grown : jobs_of (take (i + 1) rows) ≡ jobs_of (take i rows) ++ a.job ∷ []
    grown = next ∙ ap (λ o. jobs_of (take i rows) ++ and_job o []) has

    pub turn_count : length (jobs_of (take (i + 1) rows)) ≡ length (jobs_of (take i rows)) + 1
    turn_count = ap length grown ∙ length-append (jobs_of (take i rows)) (a.job ∷ [])

    -- there is room for this job too
    pub turn_room : length (jobs_of (take i rows)) < length (jobs_of rows)
    turn_room =
        omega (
          arith,
          turn_count,
          ap (λ rs. length (jobs_of rs)) (take-append-drop (i + 1) rows),
          ap length (jobs-append (take (i + 1) rows) (drop (i + 1) rows)),
          length-append (jobs_of (take (i + 1) rows)) (jobs_of (drop (i + 1) rows)),
        )

    -- it is written behind the others
    pub turn_written : (n : ℕ) (list now : List Job) → n ≡ length (jobs_of (take i rows)) → now ≡ jobs_of (take i rows) ++ drop n list → n < length list
        → set now n a.job ≡ jobs_of (take (i + 1) rows) ++ drop (n + 1) list
    turn_written n list now count so room =
        let js = jobs_of (take i rows) in
        ap (λ xs. set xs n a.job) (so ∙ ap (λ xs. js ++ xs) (drop_more list n a.job room))
        ∙ ap (λ m. set (js ++ get_or list n a.job ∷ drop (n + 1) list) m a.job) count
        ∙ set-append_seam js (get_or list n a.job) (drop (n + 1) list) a.job
        ∙ sym (append_assoc js (a.job ∷ []) (drop (n + 1) list))
        ∙ ap (λ xs. xs ++ drop (n + 1) list) (sym grown)
