-- `bitset::union_of_rows` meets its contract. The loop's invariant: what `out` has, or some row of a member that is still to come has, is what some row of a
-- member of `set` has. Assumes nothing.
use mathlib.Core.Path.{◌≡◌}
use mathlib.Core.Bool.{Bool, ◌&&◌, ◌||◌}
use mathlib.Core.List.{List}
use Prim.Native.Nat.{ℕ, ◌^◌, ◌<◌}
use Rattle.bitset.specs.Sets.{has, any}
use Rattle.bitset.specs.Upto.{row}
use Rattle.bitset.proofs.union_of_rows.Given as goal

-- does some row of a member of s have k?
abbrev pub hit : List ℕ → ℕ → ℕ → Bool
hit rows s k = any 64 (λ i. has s i && has (row rows i) k)

abbrev pub invariant-loop-i : goal.invariant-loop-i
invariant-loop-i l = (l.i-iterator.rest < 2 ^ 64) × ((k : ℕ) → k < 64 → has l.out k || hit l.rows l.i-iterator.rest k ≡ hit l.rows l.set k)
