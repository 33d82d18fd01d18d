-- `Groups::add` meets its contract. The invariant: the groups so far have all but `left`, of which each new one takes its pivot. Assumes nothing.
use mathlib.Core.Path.{◌≡◌}
use lib.Count.{ones}
use Rattle.idle.specs.inner.Groups.{Grouping}
use Rattle.idle.proofs.groups.Groups.add.Given as goal

abbrev pub invariant-loop-self : goal.invariant-loop-self
invariant-loop-self l = record {
  same : l.self.room ≡ l.fn.self.room;
  grouping : Grouping l.ways l.self;
}

abbrev pub decreases-loop-self : goal.decreases-loop-self
decreases-loop-self l = ones l.self.left
