-- `Groups::keep` meets its contract. The invariant: the groups so far have all but `left`, and those from g on are as they were. Assumes nothing.
use mathlib.Core.Path.{◌≡◌}
use Prim.Native.Nat.{ℕ, ◌≤◌, ◌<◌}
use Rattle.idle.specs.inner.Groups.{group_at, Grouping}
use Rattle.idle.proofs.groups.Groups.keep.Given as goal

abbrev pub invariant-loop-g : goal.invariant-loop-g
invariant-loop-g l = record {
  few : l.self.count ≤ l.g;
  same : l.self.room ≡ l.fn.self.room;
  grouping : Grouping l.ways l.self;
  others : (h : ℕ) → l.g ≤ h → h < l.q → group_at l.self.groups h ≡ group_at l.fn.self.groups h;
}
