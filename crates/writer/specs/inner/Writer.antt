-- What writers promise.
use Rattle.std.specs.Prelude.{◌≡◌, List, ◌++◌, ℕ, ◌+◌, ◌≤◌, length, take, drop}
use Rattle.writer.specs.declared.Writer.{Writer}

-- A buffer that holds d is turned into e: the text, and after it what stood there. So many bytes are filled.
pub record Wrote (text d e : List ℕ) (filled : ℕ) : Type 0 where
  pub count : filled ≡ length text
  pub bytes : e ≡ text ++ drop (length text) d

-- what is written, and the rest of the buffer
abbrev pub front : Writer → List ℕ
front w = take w.len w.buf.now

abbrev pub back : Writer → List ℕ
back w = drop w.len w.buf.now

-- the text fits into the rest
abbrev pub HasRoom : List ℕ → Writer → Type 0
HasRoom text w = w.len + length text ≤ length w.buf.now

-- The text goes behind what is written; what it does not cover of the rest stays.
pub record Appended (text : List ℕ) (v w : Writer) : Type 0 where
  pub same_reference : w.buf.ghost_name ≡ v.buf.ghost_name
  pub size : length w.buf.now ≡ length v.buf.now
  pub count : w.len ≡ v.len + length text
  pub front : front w ≡ front v ++ text
  pub back : back w ≡ drop (length text) (back v)
