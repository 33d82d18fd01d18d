-- `filter::run` meets its contract.
use mathlib.Core.Path.{ap, ◌∙◌}
use Rattle.filter.specs.declared.cycle.Cursor.{Cursor}
use Rattle.filter.specs.Calls.{run_call}
use Rattle.filter.specs.inner.Steps.{state_at}
use Rattle.filter.proofs.cycle.run.Goals as goal

pub returns : goal.returns
returns c =
    let w = c.args.work in
    rw c.state.ensures (c.run_in-ran.ensures.0 ∙ ap (λ (at : Cursor). run_call (state_at w.n w.table.rows w.limit at) c.args.budget) c.of.ensures)
