-- Texts as lists of bytes: words, and numbers in decimal.
use Rattle.std.specs.Prelude.{cond, List, [], ◌∷◌, ◌++◌, ℕ, zero, suc, ◌+◌, ◌/◌, ◌%◌, ltb}
use Prim.Native.Char.{code}
use Prim.Native.String.{String, [] as empty, ◌∷◌ as ◌◃◌}

-- the bytes of a text of ASCII characters
abbrev pub ascii : String → List ℕ
ascii empty = []
ascii (c ◃ s) = code c ∷ ascii s

-- the digit d
abbrev pub digit : ℕ → List ℕ
digit d = (48 + d) ∷ []

-- a number up to f in decimal, without leading zeros: the digits of a tenth of it, and its last digit
unfoldable pub digits : ℕ → ℕ → List ℕ
digits zero x = digit x
digits (suc f) x =
    let more = digits f (x / 10) ++ digit (x % 10) in
    cond (ltb x 10) (digit x) more

-- a number in decimal, without leading zeros
unfoldable pub decimal : ℕ → List ℕ
decimal x = digits x x
