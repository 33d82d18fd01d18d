-- `filter::only_member` meets its contract.
use mathlib.Core.Path.{sym, ◌∙◌}
use Rattle.bitset.proofs.BoolLaws.{cond_true, cond_false}
use Rattle.filter.proofs.singles.only_member.Goals as goal

pub returns-then-is_single : goal.returns-then-is_single
returns-then-is_single c = sym (cond_true _ 0 (sym c.is_single.ensures ∙ c.if-is_single.true))

pub returns-else-is_single : goal.returns-else-is_single
returns-else-is_single c = sym (cond_false _ 0 (sym c.is_single.ensures ∙ c.if-is_single.false))
