use native.Mathlib.Omega.{arith}
use Rattle.circuit.specs.Legs.{leg}
use Rattle.separator.proofs.RoomLaws.{leaving_start, leaving_turn, leaving_less, leaving_none, leaving_all}
use Rattle.separator.proofs.reach.grown.Goals as goal
use Rattle.separator.proofs.reach.grown.Goals.{else-loop-left-test, then-loop-left-test+then-last-eq0}

pub loop-left-init : goal.loop-left-init
loop-left-init c = leaving_start _ _ _ c.ranges.room.fits c.ranges.start.fits

pub loop-left-smaller : goal.loop-left-smaller
unfolding leg
loop-left-smaller c =
    leaving_less _ c.args.room c.args.start c.ranges.room.fits c.ranges.start.fits c.loop-left.invariant c.union_of_rows.ensures (omega arith)

pub loop-left-preserved : goal.loop-left-preserved
unfolding leg
loop-left-preserved c =
    leaving_turn _ c.args.room c.args.start c.ranges.room.fits c.ranges.start.fits c.loop-left.invariant c.union_of_rows.ensures

pub returns : goal.returns
unfolding leg
returns c =
    let g = c.loop-left.invariant in
    let room = c.ranges.room.fits in
    let start = c.ranges.start.fits in
    elim c.loop-left-test.branch [
      | else-loop-left-test w ↦ leaving_all _ c.args.room c.args.start room start g w.loop-left-test.false
      | then-loop-left-test+then-last-eq0 w ↦ leaving_none _ c.args.room c.args.start room start g w.union_of_rows.ensures w.if-last-eq0.true
    ]
