-- `Level::ends` meets its contract. The invariant: the ends of the pairs of the stations passed. Assumes nothing.
use Rattle.separator.specs.Level.{marked}
use Rattle.separator.proofs.EndsLaws.{Gathering}
use Rattle.separator.proofs.level.Level.ends.Given as goal

abbrev pub invariant-loop-i : goal.invariant-loop-i
invariant-loop-i l = Gathering (λ i j. marked 64 l.self.net.now.rows l.self.s l.self.parts.now i j l.m) l.self.s l.i-iterator.rest l.tails l.heads
