-- One turn more over the lines of a text. Assumes nothing.
use Rattle.std.proofs.Common.{◌≡◌, ℕ, suc, ◌+◌, ◌*◌, ◌/◌, ◌<◌, List, [], ◌∷◌, ◌++◌, length, take, drop, Ok, Err, Result, sym, refl, ap, ◌∙◌, append_assoc, add-one, arith}
use Rattle.std.proofs.lemmas.List.{drop_at, length-append, take_at}
use Rattle.std.proofs.lemmas.Grind.{common_steps}
use Rattle.fault.specs.declared.fault.Fault.{Fault}
use Rattle.fault.specs.Steps.{and_then}
use Rattle.text.specs.declared.triple.Triple.{Triple}
use Rattle.text.specs.Reading.{line_read, lines_read}

-- the triples that are done, and then those of the rest
abbrev pub behind : List Triple → Result (List Triple) Fault → Result (List Triple) Fault
behind done rest = and_then rest (λ ts. Ok (done ++ ts))

-- the triples of the lines so far, and what the rest gives behind them is what the whole gives
pub record Turn (bs : List ℕ) (done : List Triple) (count : ℕ) (rest : List ℕ) : Type 0 where
  pub counted : length done ≡ count
  pub whole : 25 * count + length rest ≡ length bs
  pub so : behind done (lines_read (length rest / 25) rest (count + 1)) ≡ lines_read (length bs / 25) bs 1

behind_none : (rest : Result (List Triple) Fault) → behind [] rest ≡ rest
behind_none (Ok ts) = refl
behind_none (Err f) = refl

-- no line is done
pub turn_none : (bs : List ℕ) → Turn bs [] 0 bs
turn_none bs = record { counted = refl; whole = omega arith; so = behind_none (lines_read (length bs / 25) bs 1) }

behind_push : (done : List Triple) (t : Triple) (rest : Result (List Triple) Fault) → behind done (and_then rest (λ ts. Ok (t ∷ ts))) ≡ behind (done ++ t ∷ []) rest
behind_push done t (Ok ts) = ap (λ xs. Ok xs) (sym (append_assoc done (t ∷ []) ts))
behind_push done t (Err f) = refl

-- the rest is the next line and what stands behind it
lines_read_more : (rest x xs : List ℕ) (i : ℕ) → rest ≡ x ++ xs → length x ≡ 25 → lines_read (length rest / 25) rest i ≡ and_then (line_read x i) (λ t. and_then (lines_read (length xs / 25) xs (i + 1)) (λ ts. Ok (t ∷ ts)))
lines_read_more rest x xs i split long =
    let count : length rest / 25 ≡ suc (length xs / 25) = omega (arith, ap length split, length-append x xs) in
    let first : take 25 rest ≡ x = ap (take 25) split ∙ take_at x xs 25 long in
    let behind : drop 25 rest ≡ xs = ap (drop 25) split ∙ drop_at x xs 25 long in
    rw (count, first, behind, add-one) refl

-- the next line gave a triple
pub turn_more : (bs rest x xs : List ℕ) (done : List Triple) (i : ℕ) (t : Triple) → rest ≡ x ++ xs → length x ≡ 25 → Ok t ≡ line_read x (i + 1) → Turn bs done i rest → Turn bs (done ++ t ∷ []) (i + 1) xs
turn_more bs rest x xs done i t split long read turn = grind (arith, common_steps, lines_read_more, behind_push)

-- a fault in the next line is the fault of all
pub turn_fault : (bs rest x xs : List ℕ) (done : List Triple) (i : ℕ) (f : Fault) → rest ≡ x ++ xs → length x ≡ 25 → Err f ≡ line_read x (i + 1) → Turn bs done i rest → Err f ≡ lines_read (length bs / 25) bs 1
turn_fault bs rest x xs done i f split long read turn = grind (arith, common_steps, lines_read_more)

-- no line is left
pub turn_all : (bs rest : List ℕ) (done : List Triple) (i : ℕ) → length rest < 25 → Turn bs done i rest → Ok done ≡ lines_read (length bs / 25) bs 1
turn_all bs rest done i few turn = grind (arith, common_steps)
