-- What comes of one step after another, where any may refuse: the meaning of `?`. Assumes nothing.
use Rattle.std.specs.Prelude.{Ok, Err, Result}

-- the second step goes on from what the first gave; a refusal of the first is passed on unchanged
abbrev pub and_then : {A B E : Type 0} → Result A E → (A → Result B E) → Result B E
and_then (Ok x) f = f x
and_then (Err e) f = Err e

-- another view of what a step gave
abbrev pub map_ok : {A B E : Type 0} → (A → B) → Result A E → Result B E
map_ok f (Ok x) = Ok (f x)
map_ok f (Err e) = Err e
