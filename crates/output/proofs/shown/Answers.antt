-- `output::shown` meets its contract. Assumes nothing.
use mathlib.Core.Path.{sym, ◌∙◌}
use Rattle.bitset.proofs.BoolLaws.{cond_true, cond_false}
use Rattle.output.proofs.shown.Goals as goal

pub returns-then-is_none : goal.returns-then-is_none
returns-then-is_none c = sym (cond_true _ _ (sym c.is_none.ensures ∙ c.if-is_none.true))

pub returns-else-is_none : goal.returns-else-is_none
returns-else-is_none c = sym (cond_false _ _ (sym c.is_none.ensures ∙ c.if-is_none.false))
