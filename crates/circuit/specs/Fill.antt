-- Calls that write a text or a sheet to the start of a lent buffer: what they hand back, and what they leave in the buffer.
use Rattle.std.specs.Prelude.{cond, List, ℕ, length}
use Rattle.writer.specs.Lent.{short, written}
use Rattle.circuit.specs.declared.filled.Filled.{Filled}
use Rattle.circuit.specs.declared.state.Work.{Work}
use Rattle.circuit.specs.Card.{card}
use Rattle.circuit.specs.State.{bad}

-- what a call hands back for its text and the lent buffer
unfoldable pub filled : List ℕ → List ℕ → Filled
filled text buffer =
    cond (short text buffer) (record { answer = card 10; len = 0 })
    (record { answer = card 0; len = length text })

-- the same of a call whose text is that of a work state
unfoldable pub fill_call : Work → List ℕ → List ℕ → Filled
fill_call w text buffer =
    cond (bad w) (record { answer = card 7; len = 0 })
    (filled text buffer)

-- and what that call leaves in the buffer: refused, what was there
unfoldable pub fill_bytes : Work → List ℕ → List ℕ → List ℕ
fill_bytes w text buffer =
    cond (bad w) buffer
    (written text buffer)
