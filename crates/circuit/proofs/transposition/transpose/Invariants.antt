-- `circuit::transpose` meets its contract. The invariant: of the numbers of words and bits, the digits from b on have changed places.
use mathlib.Core.Path.{◌≡◌}
use Prim.Native.Nat.{◌≤◌}
use Rattle.circuit.proofs.ColumnLaws.{TurnedTo}
use Rattle.circuit.proofs.transposition.transpose.Given as goal

abbrev pub invariant-loop-b : goal.invariant-loop-b
invariant-loop-b l = TurnedTo l.initial.words l.used l.b l.words × (l.used ≤ l.b → l.words ≡ l.initial.words)
