-- A text written to the start of a lent buffer.
use Rattle.std.specs.Prelude.{Bool, cond, List, ◌++◌, ℕ, ltb, length, drop}

-- no room: the buffer is shorter than the text
unfoldable pub short : List ℕ → List ℕ → Bool
short text buffer = ltb (length buffer) (length text)

-- what the buffer holds then: the text, and after it what stood there; without room, what stood there
unfoldable pub written : List ℕ → List ℕ → List ℕ
written text buffer =
    cond (short text buffer) buffer
    (text ++ drop (length text) buffer)
