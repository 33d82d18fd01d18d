-- `idle::paired` meets its contract. Assumes nothing.
use native.Mathlib.Omega.{arith}
use Rattle.idle.proofs.PairLaws.{paired_none, paired_outside, paired_any}
use Rattle.idle.proofs.idle.paired.Goals as goal

pub returns-then-other-eq0 : goal.returns-then-other-eq0
returns-then-other-eq0 c = paired_none _ _

pub returns-then-other-eq0-2 : goal.returns-then-other-eq0-2
returns-then-other-eq0-2 c =
    paired_outside c.args.own c.args.other c.ranges.other.fits (omega arith) c.ranges.own.fits

pub returns : goal.returns
returns c =
    paired_any c.args.own c.args.other c.ranges.other.fits (omega arith) (omega arith)
