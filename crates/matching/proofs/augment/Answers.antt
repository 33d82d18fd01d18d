use mathlib.Core.Path.{sym, ◌∙◌}
use Prim.Native.Nat.{◌-◌, ◌^◌}
use native.Mathlib.Nat.{le_refl}
use native.Mathlib.Omega.{arith}
use lib.ListN.{set, length-set}
use lib.Bits.{and_le_l}
use Rattle.bitset.specs.Upto.{row}
use Rattle.matching.specs.Matching.{Out}
use Rattle.bitset.proofs.HasLaws.{member_below}
use Rattle.bitset.proofs.WordLaws.{without_one, fewer}
use Rattle.matching.proofs.PutLaws.{Put, put_set}
use Rattle.matching.proofs.PathLaws.{path_start, path_step, path_next, path_end}
use Rattle.matching.proofs.augment.Goals.{At-loop-next, In-loop-next}
use Rattle.matching.proofs.augment.Goals as goal

pub loop-next-init : goal.loop-next-init
loop-next-init c =
    let a = c.requires.1 in (
      member_below 64 _ _ c.ranges.reach.fits a.within,
      c.ranges.reach.fits,
      a.matched.size,
      path_start _ _ _ _ _ _ a.forest.inside _ a.rank _ a.matched a.forest a.hit a.within,
    )

-- the component at s makes room for c
move : (c : At-loop-next) → Put (row c.loop-next.owner) c.loop-next.s c.loop-next.c (row (set c.loop-next.owner c.loop-next.s c.loop-next.c))
move c = put_set c.loop-next.owner c.loop-next.s c.loop-next.c (omega arith)

-- s is not free
busy : (c : In-loop-next) → Out c.args.free c.loop-next.s
busy c = sym c.contains.ensures ∙ c.loop-next-test.true

pub loop-next-smaller : goal.loop-next-smaller
loop-next-smaller c =
    let l = c.loop-next in
    let p = l.invariant.3 in
    fewer l.rest l.s ((2 ^ 64 - 1) - c.singleton.result) (p.ahead l.s p.within (le_refl (p.rank l.s)))
    (without_one 64 l.rest l.s c.singleton.result l.invariant.1 l.invariant.0 c.singleton.ensures)

pub loop-next-preserved : goal.loop-next-preserved
loop-next-preserved c =
    let l = c.loop-next in
    let at = goal.at.loop-next-preserved c in
    let inside = c.requires.1.forest.inside in (
      member_below 64 _ _ c.ranges.reach.fits (path_step _ _ _ _ _ _ inside l.invariant.3 (busy at.In-loop-next)).stays,
      omega (arith, and_le_l l.rest ((2 ^ 64 - 1) - c.singleton.result)),
      simp length-set l.invariant.2,
      path_next _ _ _ _ _ _ inside l.invariant.3 (set l.owner l.s l.c) (move at.At-loop-next) (busy at.In-loop-next) _
          (without_one 64 l.rest l.s c.singleton.result l.invariant.1 l.invariant.0 c.singleton.ensures),
    )

pub returns : goal.returns
returns c =
    let a = c.args in
    let l = c.loop-next in
    path_end _ _ _ _ _ _ c.requires.1.forest.inside l.invariant.3 (set l.owner l.s l.c) (move (goal.at.returns c).At-loop-next) _ (simp length-set l.invariant.2)
    c.requires.1.matched.inside (sym c.contains.ensures ∙ c.loop-next-test.false)
    (without_one 64 a.free l.s c.singleton-2.result c.ranges.free.fits l.invariant.0 c.singleton-2.ensures)
