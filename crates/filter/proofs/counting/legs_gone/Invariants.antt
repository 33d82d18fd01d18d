-- `filter::legs_gone` meets its contract. The invariant: of the rows below i, the legs after and those that went are the legs before.
use mathlib.Core.Path.{◌≡◌}
use Prim.Native.Nat.{◌+◌, ◌*◌, ◌≤◌}
use Rattle.bitset.specs.Sets.{sum, size}
use Rattle.bitset.specs.Upto.{row}
use Rattle.filter.proofs.counting.legs_gone.Given as goal

abbrev pub invariant-loop-i : goal.invariant-loop-i
invariant-loop-i l = (sum l.i (λ k. size l.n (row l.after k)) + l.gone ≡ sum l.i (λ k. size l.n (row l.before k))) × (l.gone ≤ 64 * l.i)
