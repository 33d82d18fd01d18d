-- `filter::taken` meets its contract.
use mathlib.Core.Path.{sym, ◌∙◌}
use Rattle.bitset.proofs.BoolLaws.{cond_true, cond_false}
use Rattle.filter.proofs.sweeping.taken.Goals as goal

pub returns-then-is_single : goal.returns-then-is_single
returns-then-is_single c = sym (cond_true _ _ (sym c.is_single.ensures ∙ c.if-is_single.true))

pub returns-else-is_single : goal.returns-else-is_single
returns-else-is_single c = sym (cond_false _ _ (sym c.is_single.ensures ∙ c.if-is_single.false))
