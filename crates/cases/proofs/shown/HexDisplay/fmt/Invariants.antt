-- A group is not empty.
use Rattle.std.proofs.Common.{length}
use Rattle.cases.proofs.shown.HexDisplay.fmt.Given as goal

abbrev pub decreases-loop-front : goal.decreases-loop-front
decreases-loop-front g l = length l.rest
