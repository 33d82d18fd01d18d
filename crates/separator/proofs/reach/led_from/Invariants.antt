-- `separator::reach::led_from` meets its contract. The invariant: `left` is what of the room is not in yet, `last` came in last, and `beyond` has the members of the
-- words of the others. Assumes nothing.
use Prim.Native.Nat.{◌+◌}
use lib.Count.{ones}
use Rattle.separator.proofs.LedLaws.{Leading}
use Rattle.separator.proofs.reach.led_from.Given as goal

abbrev pub invariant-loop-last : goal.invariant-loop-last
invariant-loop-last l = Leading l.words l.room l.start l.left l.last l.beyond

abbrev pub decreases-loop-last : goal.decreases-loop-last
decreases-loop-last l = ones l.left + ones l.last
