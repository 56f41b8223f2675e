-- The text of a number in a field of eight bytes, and the number that a field is read as. Assumes nothing.
use Rattle.std.specs.Prelude.{◌≡◌, ℕ, ◌+◌, ◌-◌, ◌*◌, ◌^◌, ◌<◌, cond, ◌&&◌, List, [], ◌∷◌, ◌++◌, length, replicate, Some, None, decimal, Option, ◌≢◌, nat_lt}
use Rattle.std.specs.Str.{bytes_eq}

-- the number has at most eight digits
abbrev pub Fits : ℕ → Type 0
Fits n = n < 10 ^ 8

-- the text of a number: its decimal digits, with spaces before them
unfoldable pub field_of : ℕ → List ℕ
field_of n = replicate (8 - length (decimal n)) 32 ++ decimal n

-- the answer is the number whose text the bytes are, and nothing where they are no number's text
abbrev pub Reads : List ℕ → Option ℕ → Type 0
Reads bs (Some n) = Fits n × (bs ≡ field_of n)
Reads bs None = (n : ℕ) → Fits n → bs ≢ field_of n

-- the number that the bytes write after the digits of n; a space in front of all digits adds nothing
abbrev pub value_after : ℕ → List ℕ → ℕ
value_after n [] = n
value_after n (c ∷ cs) = value_after (10 * n + (c - 48)) cs

-- the only number whose text the bytes can be
abbrev pub candidate : List ℕ → ℕ
candidate bs = value_after 0 bs

-- the number that the bytes are read as: the candidate, if the bytes are indeed its text
unfoldable pub field_read : List ℕ → Option ℕ
field_read bs = cond (nat_lt (candidate bs) (10 ^ 8) && bytes_eq bs (field_of (candidate bs))) (Some (candidate bs)) None
