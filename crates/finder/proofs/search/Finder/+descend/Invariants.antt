-- `Finder::descend` calls itself: the undecided stations fall. Its loop: what is left of the search over the children.
use Prim.Native.Nat.{◌-◌}
use Rattle.bitset.specs.Upto.{row}
use Rattle.finder.specs.inner.Finders.{Kept}
use Rattle.finder.proofs.StepLaws.{Rest}
use Rattle.finder.proofs.search.Finder.+descend.Given as goal

abbrev pub decreases-descend : goal.decreases-descend
decreases-descend l = l.undecided

abbrev pub invariant-loop-k : goal.invariant-loop-k
invariant-loop-k l =
    let f = l.fn.self in
    let d = f.n - l.undecided in
    record {
      same : Kept f l.self;
      rest : Rest f.n f.limit l.undecided l.rows d (f.left - 1) (row l.rows d) f.list.now l.self.left l.k-iterator.rest l.self.list.now;
    }
