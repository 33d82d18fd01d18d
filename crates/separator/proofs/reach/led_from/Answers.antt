use native.Mathlib.Omega.{arith}
use Rattle.circuit.specs.Legs.{leg}
use Rattle.separator.proofs.LedLaws.{leading_start, leading_turn, leading_less, leading_end}
use Rattle.separator.proofs.reach.led_from.Goals as goal

pub loop-last-init : goal.loop-last-init
loop-last-init c = leading_start _ _ _ c.ranges.room.fits c.ranges.start.fits

pub loop-last-smaller : goal.loop-last-smaller
unfolding leg
loop-last-smaller c =
    leading_less _ _ _ c.ranges.room.fits c.ranges.start.fits c.loop-last.invariant c.union_of_rows-near.ensures (omega arith)

pub loop-last-preserved : goal.loop-last-preserved
unfolding leg
loop-last-preserved c =
    leading_turn _ _ _ c.ranges.room.fits c.ranges.start.fits c.loop-last.invariant c.union_of_rows-near.ensures

pub returns : goal.returns
returns c =
    leading_end _ _ _ c.ranges.room.fits c.ranges.start.fits c.loop-last.invariant (omega arith)
