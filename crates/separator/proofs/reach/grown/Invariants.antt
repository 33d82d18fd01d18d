-- `separator::reach::grown` meets its contract. The invariant: `left` is what of the room is not in yet, and `last` came in last. Assumes nothing.
use lib.Count.{ones}
use Rattle.circuit.specs.Legs.{leg}
use Rattle.separator.proofs.RoomLaws.{Leaving}
use Rattle.separator.proofs.reach.grown.Given as goal

abbrev pub invariant-loop-left : goal.invariant-loop-left
invariant-loop-left l = Leaving (leg l.words) l.room l.start l.left l.last

abbrev pub decreases-loop-left : goal.decreases-loop-left
decreases-loop-left l = ones l.left
