-- `filter::compulsory_legs` meets its contract.
use Prim.Native.Nat.{◌-◌}
use Rattle.filter.specs.inner.Chains.{compulsory_words}
use Rattle.filter.proofs.EnterLaws.{Gathering}
use Rattle.filter.proofs.chaining.compulsory_legs.Given as goal

abbrev pub invariant-loop-i : goal.invariant-loop-i
invariant-loop-i l = Gathering l.n (compulsory_words l.n l.rows l.sole) l.i l.leave l.enter l.legs

abbrev pub decreases-loop-i : goal.decreases-loop-i
decreases-loop-i l = l.n - l.i
