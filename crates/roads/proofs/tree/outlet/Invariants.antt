-- `roads::outlet` meets its contract. The invariant: a station of `seen` that is not left has no road out of it. Assumes nothing.
use mathlib.Core.Path.{◌≡◌}
use mathlib.Core.Bool.{true, false}
use Prim.Native.Nat.{ℕ, ◌^◌, ◌<◌}
use Rattle.bitset.specs.Sets.{has}
use Rattle.roads.specs.inner.Promises.{Shut}
use Rattle.roads.proofs.tree.outlet.Given as goal

abbrev pub invariant-loop-p : goal.invariant-loop-p
invariant-loop-p l = record {
  fits : l.p-iterator.rest < 2 ^ 64;
  within : (q : ℕ) → q < 64 → has l.p-iterator.rest q ≡ true → has l.seen q ≡ true;
  shut : (q : ℕ) → q < 64 → has l.p-iterator.rest q ≡ false → Shut l.rows l.seen q;
}
