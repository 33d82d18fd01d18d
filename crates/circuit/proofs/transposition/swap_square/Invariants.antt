-- `circuit::swap_square` meets its contract. The invariant: the first i pairs have swapped.
use Rattle.circuit.specs.inner.Columns.{Pairs}
use Rattle.circuit.proofs.transposition.swap_square.Given as goal

abbrev pub invariant-loop-i : goal.invariant-loop-i
invariant-loop-i l = Pairs l.half l.mask l.at l.i l.initial.words l.words
