-- The job that goes first, found from the last row to the first. Assumes nothing.
use Rattle.std.proofs.Common.{◌≡◌, Bool, true, false, cond, List, [], ◌∷◌, reverse, Some, None, Option, fold, refl, sym, ap, ◌∙◌, subst}
use Rattle.std.specs.Fn.{Mut, Called}
use Rattle.std.specs.Iterator.{Drains, FoldTurn}
use Rattle.std.specs.List.{FoldsTo}
use Rattle.std.proofs.lemmas.Iterator.{YieldsList}
use Rattle.std.proofs.lemmas.Iterator.Adapters.{total_from_yields_List}
use Rattle.std.proofs.lemmas.List.{reverse-append}
use Rattle.std.proofs.lemmas.List.Sums.{fold_push}
use denote.Ref.{Bor}
use Rattle.dispatch.specs.declared.job.Active.{Active}
use Rattle.dispatch.specs.declared.job.RowState.{RowState}
use Rattle.dispatch.specs.Ticks.{Goes, sooner, first}
use Rattle.run.specs.Serving.{leads}

module _ (goes : Goes) where
  -- one row more
  abbrev ahead : Option Active → RowState → Option Active
  ahead later r = sooner goes r.active later

  first_folded : (rows : List RowState) → fold ahead None (reverse rows) ≡ first goes rows
  first_folded [] = refl
  first_folded (r ∷ rows) = ap (fold ahead None) (reverse-append (r ∷ []) rows) ∙ fold_push ahead None (reverse rows) r ∙ ap (sooner goes r.active) (first_folded rows)

  alone : (o : Option Active) → sooner goes o None ≡ o
  alone None = refl
  alone (Some a) = refl

  -- the row that is kept has the job that goes first
  kept_job : (x b : RowState) → (cond (leads goes x.active b.active) x b).active ≡ sooner goes x.active b.active
  kept_job x b = by x.active b.active refl refl
    where
      picked : (t : Bool) (a c : Active) → x.active ≡ Some a → b.active ≡ Some c → (cond t x b).active ≡ cond t (Some a) (Some c)
      picked true a c e f = e
      picked false a c e f = f

      by : (o p : Option Active) → x.active ≡ o → b.active ≡ p → (cond (leads goes o p) x b).active ≡ sooner goes o p
      by None p e f = f
      by (Some a) None e f = e
      by (Some a) (Some c) e f = picked (goes a.job c.job) a c e f

  module _ {F : Type 0} (g : Mut F (Bor RowState × (Bor RowState × Unit {0})) (Bor RowState)) (f : F)
      (acts : (b x y : Bor RowState) (q : F) → Called g f (b, (x, tt)) y q → (q ≡ f) × (y ≡ cond (leads goes x.now.active b.now.active) x b)) where
    folds : (xs : List (Bor RowState)) (p q : F × Bor RowState) → p.0 ≡ f → FoldsTo {P = F × Bor RowState} (FoldTurn g) p xs q
        → q.1.now.active ≡ fold (λ a x. ahead a x.now) p.1.now.active xs
    folds [] p q a c = ap (λ w. w.1.now.active) (sym c)
    folds (x ∷ xs) p q a c =
        let m = acts p.1 x c.0.1 c.0.0 (subst (λ w. Called g w (p.1, (x, tt)) c.0.1 c.0.0) a c.1) in
        folds xs c.0 q m.0 c.2 ∙ ap (λ b. fold (λ a x. ahead a x.now) b xs) (ap (λ y. y.now.active) m.1 ∙ shown x p.1 (leads goes x.now.active p.1.now.active) ∙ kept_job x.now p.1.now)
      where
        shown : (x b : Bor RowState) (t : Bool) → (cond t x b).now.active ≡ (cond t x.now b.now).active
        shown x b true = refl
        shown x b false = refl

    pub first_reduced : {S : Type 0} {steps : S → Option (Bor RowState) → S → Type 0} {s : S} (rows : List RowState) (best : Bor RowState)
        → ((x : Bor RowState) × (xs : List (Bor RowState)) × (f' : F) × Drains steps s (x ∷ xs) × FoldsTo {P = F × Bor RowState} (FoldTurn g) (f, x) xs (f', best))
        → YieldsList steps (λ y. y.now) s (reverse rows) → best.now.active ≡ first goes rows
    first_reduced rows best (x, xs, f', drained, folded) road =
        total_from_yields_List {v = λ y. y.now} ahead None best.now.active
        (x ∷ xs, λ _. drained, folds xs (f, x) (f', best) refl folded ∙ ap (λ b. fold (λ a y. ahead a y.now) b xs) (sym (alone x.now.active))) road
        ∙ first_folded rows
