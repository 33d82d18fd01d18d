-- `roads::obliged` meets its contract. The invariant: the words before i are done. Assumes nothing.
use mathlib.Core.Bool.{◌||◌}
use Rattle.bitset.proofs.UptoLaws.{Changed}
use Rattle.circuit.specs.Legs.{leg}
use Rattle.circuit.proofs.LegsLaws.{word_of}
use Rattle.roads.proofs.step.obliged.Given as goal

abbrev pub invariant-loop-i : goal.invariant-loop-i
invariant-loop-i l = Changed 64 (word_of l.n (λ a b. leg l.initial.out a b || leg l.force a b)) l.initial.out l.i l.out
