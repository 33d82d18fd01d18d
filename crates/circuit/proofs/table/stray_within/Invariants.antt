-- `circuit::stray_within` meets its contract.
use mathlib.Core.Path.{◌≡◌}
use Prim.Native.Nat.{◌^◌, ◌<◌}
use Rattle.circuit.specs.inner.Tables.{Tells}
use Rattle.circuit.proofs.table.stray_within.Given as goal

abbrev pub invariant-loop-i : goal.invariant-loop-i
invariant-loop-i l = (l.i < 64 → l.own ≡ 2 ^ l.i) × Tells l.n l.rows l.i l.found
