-- `filter::call` meets its contract.
use mathlib.Core.Path.{ap, ◌∙◌}
use Rattle.filter.specs.declared.cycle.Cursor.{Cursor}
use Rattle.filter.specs.Calls.{hand_call}
use Rattle.filter.specs.inner.Steps.{state_at}
use Rattle.filter.proofs.hand.call.Goals as goal

pub returns : goal.returns
returns c =
    let w = c.args.work in
    rw c.state.ensures (c.call_in-called.ensures.0 ∙ ap (λ (at : Cursor). hand_call (state_at w.n w.table.rows w.limit at) c.args.rule) c.of.ensures)
