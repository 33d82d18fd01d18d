-- `circuit::difference` meets its contract. The loop: the first i words are done.
use mathlib.Core.Bool.{not, ◌&&◌}
use Rattle.bitset.proofs.UptoLaws.{Filled}
use Rattle.circuit.specs.Legs.{leg}
use Rattle.circuit.proofs.LegsLaws.{word_of}
use Rattle.circuit.proofs.table.difference.Given as goal

abbrev pub invariant-loop-i : goal.invariant-loop-i
invariant-loop-i l = Filled 64 (word_of 64 (λ a b. leg l.rows a b && not (leg l.other a b))) l.i l.left
