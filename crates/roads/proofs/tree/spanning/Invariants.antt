-- `roads::spanning` meets its contract. The invariant: the words span what is reached, one word a station. Assumes nothing.
use Prim.Native.Nat.{◌-◌}
use Rattle.bitset.specs.Upto.{row}
use Rattle.roads.proofs.GrowLaws.{Growing}
use Rattle.roads.proofs.tree.spanning.Given as goal

abbrev pub invariant-loop-p : goal.invariant-loop-p
invariant-loop-p l = Growing l.n l.rows l.count l.seen (row l.words)

abbrev pub decreases-loop-p : goal.decreases-loop-p
decreases-loop-p l = 64 - l.count
