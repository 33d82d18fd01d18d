-- `cut::cut` meets its contract.
use mathlib.Core.Path.{ap, ◌∙◌}
use Rattle.filter.specs.declared.cycle.Cursor.{Cursor}
use Rattle.filter.specs.inner.Steps.{state_at}
use Rattle.cut.specs.Call.{cut_call}
use Rattle.cut.proofs.cut.Goals as goal

pub returns : goal.returns
returns c =
    let w = c.args.work in
    rw c.state.ensures (c.cut_in-called.ensures.0 ∙ ap (λ (at : Cursor). cut_call (state_at w.n w.table.rows w.limit at) c.args.must) c.of.ensures)
