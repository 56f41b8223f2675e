-- Striking off, as the code does it, from the first row to the last. Assumes nothing.
use Rattle.std.proofs.Common.{◌≡◌, ℕ, zero, suc, ◌+◌, ◌<◌, Bool, true, false, cond, eqb, List, [], ◌∷◌, ◌++◌, map, length, get_or, take, drop, unwrap_or, Some, None, Option, sym, refl, ap, ◌∙◌, arith}
use Rattle.std.specs.Option.{option_or}
use Rattle.std.proofs.lemmas.List.{drop_more}
use Rattle.std.proofs.lemmas.List.Sums.{sum_by-drop_more}
use Rattle.dispatch.specs.declared.job.Active.{Active}
use Rattle.dispatch.specs.declared.job.RowState.{RowState}
use Rattle.dispatch.specs.Jobs.{with_active}
use Rattle.dispatch.specs.Ticks.{kept, late, missed, lowest_of, lowest}
use Rattle.run.specs.Serving.{struck_row}

abbrev pub strike_of : ℕ → RowState → RowState
strike_of clock r = with_active (kept clock r.active) r

-- a row that is struck counts as one and is told, and another is not

pub struck_some : (clock row further : ℕ) (o : Option Active) → Some row ≡ struck_row clock o → (late clock o ≡ 1) × (lowest_of clock o further ≡ row)
struck_some clock row further None e = absurd cc
struck_some clock row further (Some a) e = by (eqb a.job.deadline clock) e
  where
    by : (b : Bool) → Some row ≡ cond b (Some a.job.row) None → (◌≡◌ {A = ℕ} (cond b 1 0) 1) × (cond b a.job.row further ≡ row)
    by true e = (refl, cc)
    by false e = absurd cc

pub struck_none : (clock further : ℕ) (o : Option Active) → None ≡ struck_row clock o → (late clock o ≡ 0) × (lowest_of clock o further ≡ further)
struck_none clock further None e = (refl, refl)
struck_none clock further (Some a) e = by (eqb a.job.deadline clock) e
  where
    by : (b : Bool) → None ≡ cond b (Some a.job.row) None → (◌≡◌ {A = ℕ} (cond b 1 0) 0) × (cond b a.job.row further ≡ further)
    by true e = absurd cc
    by false e = (refl, refl)

-- a row that is still to be struck is as it was
half_at : (clock i : ℕ) (rows : List RowState) (d : RowState) → i < length rows → get_or (map (strike_of clock) (take i rows) ++ drop i rows) i d ≡ get_or rows i d
half_at clock i [] d lt = absurd (omega arith)
half_at clock zero (r ∷ rows) d lt = refl
half_at clock (suc i) (r ∷ rows) d lt = half_at clock i rows d (omega arith)

-- a turn of the loop, at row i
module _ (clock i : ℕ) (rows now : List RowState) (r : RowState) (lt : i < length rows) (half : now ≡ map (strike_of clock) (take i rows) ++ drop i rows)
    (read : r ≡ get_or now i r) where
  is : r ≡ get_or rows i r
  is = read ∙ ap (λ rs. get_or rs i r) half ∙ half_at clock i rows r lt

  missed_next : missed clock (drop i rows) ≡ late clock r.active + missed clock (drop (i + 1) rows)
  missed_next = sum_by-drop_more (λ (x : RowState). late clock x.active) rows i r lt ∙ ap (λ (x : RowState). late clock x.active + missed clock (drop (i + 1) rows)) (sym is)

  lowest_next : lowest clock (drop i rows) ≡ lowest_of clock r.active (lowest clock (drop (i + 1) rows))
  lowest_next = ap (lowest clock) (drop_more rows i r lt) ∙ ap (λ (x : RowState). lowest_of clock x.active (lowest clock (drop (i + 1) rows))) (sym is)

  pub turn_some : (row : ℕ) (o : Option ℕ) → Some row ≡ struck_row clock r.active
      → (missed clock (drop i rows) ≡ 1 + missed clock (drop (i + 1) rows)) × ((further : ℕ) → unwrap_or (option_or o (Some row)) further ≡ unwrap_or o (lowest clock (drop i rows)))
  turn_some row o e =
      let s = struck_some clock row (lowest clock (drop (i + 1) rows)) r.active e in
      (omega (arith, missed_next, s.0), λ further. told o further ∙ ap (unwrap_or o) (sym (lowest_next ∙ s.1)))
    where
      told : (o : Option ℕ) (further : ℕ) → unwrap_or (option_or o (Some row)) further ≡ unwrap_or o row
      told None further = refl
      told (Some x) further = refl

  pub turn_none : None ≡ struck_row clock r.active
      → (missed clock (drop i rows) ≡ missed clock (drop (i + 1) rows)) × (lowest clock (drop i rows) ≡ lowest clock (drop (i + 1) rows))
  turn_none e =
      let s = struck_none clock (lowest clock (drop (i + 1) rows)) r.active e in
      (omega (arith, missed_next, s.0), lowest_next ∙ s.1)
