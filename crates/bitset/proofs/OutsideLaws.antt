-- A number that is not outside a range is in it. Assumes nothing.
use mathlib.Core.Path.{◌≡◌}
use mathlib.Core.Bool.{false}
use Prim.Native.Nat.{ℕ, ◌≤◌}
use lib.Dec.{ltb}
use borrow.Author.Tests.{ltb-false, le-ltb}
use Rattle.bitset.specs.Sets.{outside}
use Rattle.bitset.proofs.BoolLaws.{or_none, or_false_l, or_false_r}

pub inside : (lo hi k : ℕ) → outside lo hi k ≡ false → (lo ≤ k) × (k ≤ hi)
inside lo hi k e = (ltb-false k lo (or_false_l (ltb k lo) (ltb hi k) e), ltb-false hi k (or_false_r (ltb k lo) (ltb hi k) e))

pub not_outside : (lo hi k : ℕ) → lo ≤ k → k ≤ hi → outside lo hi k ≡ false
not_outside lo hi k l h = or_none (le-ltb k lo l) (le-ltb hi k h)
