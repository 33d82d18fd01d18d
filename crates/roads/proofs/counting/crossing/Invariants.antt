-- `roads::crossing` meets its contract. The invariant: k and what the members that are left say make up the whole sum, and k is at most 3. Assumes nothing.
use mathlib.Core.Path.{◌≡◌}
use Prim.Native.Nat.{◌+◌, ◌^◌, ◌≤◌, ◌<◌}
use Rattle.bitset.specs.Sets.{sum}
use Rattle.roads.specs.inner.Promises.{part_in}
use Rattle.roads.proofs.counting.crossing.Given as goal

abbrev pub invariant-loop-i : goal.invariant-loop-i
invariant-loop-i l = (l.i-iterator.rest < 2 ^ 64) × (l.k + sum 64 (part_in l.rows l.x l.i-iterator.rest) ≡ sum 64 (part_in l.rows l.x l.x)) × (l.k ≤ 3)
