-- `matching::assign` meets its contract. The invariant: the components below n are matched. Assumes nothing.
use Rattle.matching.specs.inner.Paths.{Matched}
use Rattle.matching.proofs.assign.Given as goal

abbrev pub invariant-loop-n : goal.invariant-loop-n
invariant-loop-n l = Matched l.fits l.owner l.n l.stations l.free
