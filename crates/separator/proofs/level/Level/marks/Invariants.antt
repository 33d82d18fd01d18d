-- `Level::marks` meets its contract. The invariant: the words of the components below c, and the ends of the bare marks and theirs. Assumes nothing.
use Rattle.separator.specs.Level.{marked}
use Rattle.separator.specs.inner.Spares.{Side}
use Rattle.separator.proofs.level.Level.marks.Given as goal

abbrev pub invariant-loop-c : goal.invariant-loop-c
invariant-loop-c l = Side (marked 64 l.self.net.now.rows l.self.s l.self.parts.now) l.c l.out l.tails
    × Side (λ x y. marked 64 l.self.net.now.rows l.self.s l.self.parts.now y x) l.c l.into l.heads
