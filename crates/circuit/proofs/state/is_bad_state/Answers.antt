-- `circuit::is_bad_state` meets its contract.
use mathlib.Core.Path.{sym, ◌∙◌}
use Rattle.circuit.specs.State.{bad}
use Rattle.circuit.proofs.state.is_bad_state.Goals.{Else-outside}
use Rattle.circuit.proofs.state.is_bad_state.Goals as goal

pub returns-then-outside : goal.returns-then-outside
unfolding bad
returns-then-outside c mark end = rw (sym c.outside.ensures ∙ c.if-outside.true)

pub returns : goal.returns
unfolding bad
returns c mark end =
    let l = c in
    rw (sym l.outside.ensures ∙ l.if-outside.false, c.stray.ensures, c.outside-2.ensures, c.last_place.ensures)
