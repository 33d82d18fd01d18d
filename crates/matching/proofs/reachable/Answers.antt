use mathlib.Core.Path.{ap, ◌∙◌}
use Prim.Native.Nat.{ℕ, ◌<◌, ◌-◌, ◌^◌}
use native.Mathlib.Omega.{arith}
use lib.ListN.{length-set}
use lib.Bits.{bit_and, bit_or, and_le_l, or_lt}
use Rattle.bitset.specs.Sets.{has}
use Rattle.bitset.proofs.HasLaws.{has_zero}
use Rattle.bitset.specs.Upto.{row}
use Rattle.bitset.proofs.WordLaws.{With, in_and, and_none, in_diff, diff_in, with_one, without_least}
use Rattle.matching.proofs.PutLaws.{put_set}
use Rattle.matching.proofs.SearchLaws.{search_start, search_found, search_blocked, grown_less}
use Rattle.matching.proofs.reachable.Goals.{After-singleton-reach}
use Rattle.matching.proofs.reachable.Goals as goal

pub loop-rest-init : goal.loop-rest-init
loop-rest-init c =
    let a = c.args in (
      c.ranges.free.fits,
      omega (arith, and_le_l a.stations ((2 ^ 64 - 1) - a.free), c.ranges.stations.fits),
      c.told-via,
      search_start a.fits.now a.stations a.free _ _ _ c.requires.0
          (λ u. (in_diff 64 a.stations a.free c.ranges.stations.fits c.ranges.free.fits u, diff_in 64 a.stations a.free c.ranges.stations.fits c.ranges.free.fits u)),
    )

-- s joins
joined : (c : After-singleton-reach) → let v = c.loop-rest in With v.reach c.lowest-s.result (bit_or v.reach c.singleton-reach.result)
joined c = with_one 64 c.loop-rest.reach c.lowest-s.result c.singleton-reach.result c.loop-rest.invariant.0 c.lowest-s.ensures.1.below c.singleton-reach.ensures

more_fits : (c : After-singleton-reach) → bit_or c.loop-rest.reach c.singleton-reach.result < 2 ^ 64
more_fits c = let v = c.loop-rest in or_lt 64 v.reach c.singleton-reach.result v.invariant.0 c.singleton-reach.type_inv

pub loop-rest-smaller-then-hit-ne0 : goal.loop-rest-smaller-then-hit-ne0
loop-rest-smaller-then-hit-ne0 c =
    let a = c.args in
    let w = bit_or c.loop-rest.reach c.singleton-reach.result in
    let up : c.loop-rest.reach < w = (joined c).more (c.loop-rest.invariant.3.fresh c.lowest-s.result c.lowest-s.ensures.1.member).1 in
    let fits : bit_and a.stations ((2 ^ 64 - 1) - w) < 2 ^ 64 = omega (arith, and_le_l a.stations ((2 ^ 64 - 1) - w), c.ranges.stations.fits) in
    grown_less (2 ^ 64) c.loop-rest.reach w (bit_and a.stations ((2 ^ 64 - 1) - w)) c.loop-rest.rest up (omega (arith, more_fits c)) fits

pub loop-rest-preserved-then-hit-ne0 : goal.loop-rest-preserved-then-hit-ne0
loop-rest-preserved-then-hit-ne0 c =
    let v = c.loop-rest in
    let a = c.args in
    let s = c.lowest-s.result in
    let t = c.lowest.result in
    let w = bit_or v.reach c.singleton-reach.result in
    let hs = c.ranges.stations.fits in
    let b = in_and (row a.fits.now (row a.owner.now s)) v.reach t c.lowest.ensures.1.member in (
      more_fits c,
      omega (arith, and_le_l a.stations ((2 ^ 64 - 1) - w), hs),
      simp length-set v.invariant.2,
      search_found a.fits.now a.stations a.free (row a.owner.now) (row v.via) v.reach v.rest v.invariant.3 s c.lowest-s.ensures.1.member
          t w _ _ b.0 b.1 (joined c) (λ u. (in_diff 64 a.stations w hs (more_fits c) u, diff_in 64 a.stations w hs (more_fits c) u))
          (put_set v.via s t (omega (arith, c.lowest-s.ensures.1.below, v.invariant.2))),
    )

pub loop-rest-preserved : goal.loop-rest-preserved
loop-rest-preserved c =
    let v = c.loop-rest in
    let a = c.args in
    let s = c.lowest-s.result in (
      v.invariant.0,
      omega (arith, and_le_l v.rest (v.rest - 1), v.invariant.1),
      v.invariant.2,
      search_blocked a.fits.now a.stations a.free (row a.owner.now) (row v.via) v.reach v.rest v.invariant.3 s c.lowest-s.ensures.1.member
          _ (without_least 64 v.rest s (omega (arith, c.loop-rest-test.true)) v.invariant.1 c.lowest-s.ensures.0)
          (λ t. and_none (row a.fits.now (row a.owner.now s)) v.reach t c.if-hit-ne0.false),
    )

pub returns : goal.returns
returns c =
    let q = c.loop-rest.invariant.3 in
    record {
      size = c.loop-rest.invariant.2;
      rank = q.rank;
      forest = q.forest;
      closed = λ s i o. q.tried s i o (ap (λ (w : ℕ). has w s) c.loop-rest-test.false ∙ has_zero s);
    }
