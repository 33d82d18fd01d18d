-- `circuit::legs_of` meets its contract.
use mathlib.Core.Path.{sym, ◌∙◌}
use Rattle.circuit.proofs.LegsLaws.{legs_square}
use Rattle.circuit.proofs.table.legs_of.Goals as goal

pub returns : goal.returns
returns c = let s = c in (s.set_bits.ensures.0 ∙ sym (legs_square s.args.n s.args.rows.now s.requires.1), s.set_bits.ensures.1)
