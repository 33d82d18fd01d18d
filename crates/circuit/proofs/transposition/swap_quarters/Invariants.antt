-- `circuit::swap_quarters` meets its contract. The invariant: the pairs of the first p squares have swapped.
use Rattle.circuit.specs.inner.Columns.{Swapped}
use Rattle.circuit.proofs.transposition.swap_quarters.Given as goal

abbrev pub invariant-loop-p : goal.invariant-loop-p
invariant-loop-p l = Swapped l.half l.mask l.p l.initial.words l.words
