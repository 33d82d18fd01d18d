-- `circuit::returns_last` meets its contract. The invariant: where the moves led, and that none led back.
use mathlib.Core.Path.{◌≡◌}
use Prim.Native.Nat.{◌<◌}
use Rattle.circuit.specs.Round.{iter}
use Rattle.circuit.specs.Check.{choice_of}
use Rattle.circuit.proofs.Return.{Away}
use Rattle.circuit.proofs.list.returns_last.Given as goal

abbrev pub invariant-loop-moves : goal.invariant-loop-moves
invariant-loop-moves l = (l.station < l.n) × (l.station ≡ iter (choice_of l.list) l.moves 0) × Away l.moves (choice_of l.list)
