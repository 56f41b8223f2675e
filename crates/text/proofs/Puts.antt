-- What a list holds after parts of it were written. Assumes nothing.
use Rattle.std.proofs.Common.{◌≡◌, ℕ, List, [], ◌∷◌, ◌++◌, length, get_or, drop, set, sym, ap, ◌∙◌, append_assoc, arith}
use borrow.Rule.Slice.PartMut.{put_mid}
use Rattle.std.proofs.lemmas.List.{drop_all, drop-drop, drop_more, length-append, set_at}
use Rattle.std.proofs.lemmas.Grind.{common_steps}

-- a part written over what stands behind p
put_behind : (p q w : List ℕ) (a k : ℕ) → length p ≡ a → put_mid a k (p ++ q) w ≡ p ++ (w ++ drop k q)
put_behind p q w a k la = grind (arith, common_steps)

-- three fields and a line feed, written over 25 bytes
pub line_put : (out a b c : List ℕ) → length out ≡ 25 → length a ≡ 8 → length b ≡ 8 → length c ≡ 8 → set (put_mid 16 8 (put_mid 8 8 (a ++ drop 8 out) b) c) 24 10 ≡ a ++ (b ++ (c ++ (10 ∷ [])))
line_put out a b c all la lb lc =
    let two : put_mid 8 8 (a ++ drop 8 out) b ≡ (a ++ b) ++ drop 16 out =
    put_behind a (drop 8 out) b 8 8 la ∙ ap (λ xs. a ++ (b ++ xs)) (drop-drop 8 8 out) ∙ sym (append_assoc a b (drop 16 out)) in
    let three : put_mid 16 8 ((a ++ b) ++ drop 16 out) c ≡ ((a ++ b) ++ c) ++ drop 24 out =
    put_behind (a ++ b) (drop 16 out) c 16 8 (length-append a b ∙ omega arith) ∙ ap (λ xs. (a ++ b) ++ (c ++ xs)) (drop-drop 8 16 out) ∙
    sym (append_assoc (a ++ b) c (drop 24 out)) in
    let last : drop 24 out ≡ get_or out 24 0 ∷ [] = drop_more out 24 0 (omega arith) ∙ ap (λ xs. get_or out 24 0 ∷ xs) (drop_all 25 out (omega arith)) in
    let front : length ((a ++ b) ++ c) ≡ 24 = length-append (a ++ b) c ∙ omega (arith, length-append a b) in
    ap (λ xs. set (put_mid 16 8 xs c) 24 10) two ∙ ap (λ xs. set xs 24 10) three ∙ ap (λ xs. set (((a ++ b) ++ c) ++ xs) 24 10) last ∙
    set_at ((a ++ b) ++ c) (get_or out 24 0) [] 10 24 front ∙ simp append_assoc
