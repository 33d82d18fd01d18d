-- `filter::compulsory_word` meets its contract.
use mathlib.Core.Path.{sym, ◌∙◌}
use lib.Bits.{bit_and}
use Rattle.bitset.proofs.BoolLaws.{cond_true, cond_false}
use Rattle.filter.proofs.chaining.compulsory_word.Goals as goal

pub returns-then-is_single : goal.returns-then-is_single
returns-then-is_single c = let a = c.args in sym (cond_true a.word (bit_and a.word a.sole) (sym c.is_single.ensures ∙ c.if-is_single.true))

pub returns-else-is_single : goal.returns-else-is_single
returns-else-is_single c = let a = c.args in sym (cond_false a.word (bit_and a.word a.sole) (sym c.is_single.ensures ∙ c.if-is_single.false))
