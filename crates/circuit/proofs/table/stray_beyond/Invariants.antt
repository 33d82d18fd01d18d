-- `circuit::stray_beyond` meets its contract.
use Rattle.circuit.specs.inner.Tables.{Tells}
use Rattle.circuit.proofs.table.stray_beyond.Given as goal

abbrev pub invariant-loop-i : goal.invariant-loop-i
invariant-loop-i l = Tells l.n l.rows l.i l.found
