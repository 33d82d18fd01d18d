-- `circuit::set_bits` meets its contract. The invariant: the count of the rows below i.
use mathlib.Core.Path.{◌≡◌}
use Prim.Native.Nat.{◌*◌, ◌≤◌}
use lib.Count.{ones}
use Rattle.bitset.specs.Sets.{sum}
use Rattle.bitset.specs.Upto.{row}
use Rattle.circuit.proofs.table.set_bits.Given as goal

abbrev pub invariant-loop-i : goal.invariant-loop-i
invariant-loop-i l = (l.count ≡ sum l.i (λ k. ones (row l.rows k))) × (l.count ≤ 64 * l.i)
