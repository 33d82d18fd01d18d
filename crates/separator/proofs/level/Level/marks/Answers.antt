use native.Mathlib.Omega.{arith}
use mathlib.Core.Path.{◌≡◌}
use Rattle.separator.proofs.SideLaws.{side_start, side_at, side_more}
use Rattle.separator.proofs.level.Level.marks.Goals as goal

pub loop-c-init : goal.loop-c-init
loop-c-init c =
    let e = c.ends-bare.ensures in
    (side_start _ _ _ c.told-out e.tail, side_start _ _ _ c.told-into e.head)

pub loop-c-preserved : goal.loop-c-preserved
loop-c-preserved c =
    let v = c.loop-c in
    let e = c.ends-through.ensures in
    let most = c.args.self.now.most in
    (side_more _ v.c v.out v.tails _ _ v.invariant.0 (omega arith) e.tail (omega arith), side_more _ v.c v.into v.heads _ _ v.invariant.1 (omega arith) e.head (omega arith))

pub returns : goal.returns
returns c =
    let v = c.loop-c in
    let e : v.c ≡ c.args.self.now.count = omega arith in
    (side_at v.invariant.0 e, side_at v.invariant.1 e)
