-- `filter::joined_from` meets its contract: after k turns, k legs are walked.
use Prim.Native.Nat.{◌<◌}
use Rattle.filter.proofs.WalkLaws.{Walked}
use Rattle.filter.proofs.chaining.joined_from.Given as goal

abbrev pub invariant-loop-k : goal.invariant-loop-k
invariant-loop-k l = (l.at < 64) × Walked l.legs l.a l._k l.at l.met
