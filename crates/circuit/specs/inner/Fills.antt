-- What functions promise that write a text to the start of a lent buffer.
use Rattle.std.specs.Prelude.{◌≡◌, List, ℕ}
use Rattle.writer.specs.Lent.{written}
use Rattle.circuit.specs.declared.filled.Filled.{Filled}
use Rattle.circuit.specs.Fill.{filled}

-- the text into a lent buffer that holds d: the call hands back r and leaves e there
pub record Fills (text d e : List ℕ) (r : Filled) : Type 0 where
  pub result : r ≡ filled text d
  pub bytes : e ≡ written text d
