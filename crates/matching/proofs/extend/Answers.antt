-- `matching::extend` meets its contract: by `direct`, by `stuck`, and by what `augment` ensures. Assumes nothing.
use Prim.Native.Nat.{◌+◌}
use native.Mathlib.Omega.{arith}
use lib.ListN.{set, length-set}
use Rattle.bitset.specs.Upto.{row}
use Rattle.matching.specs.Matching.{Inside}
use Rattle.bitset.proofs.WordLaws.{in_and, and_none, without_one}
use Rattle.matching.proofs.PutLaws.{put_set}
use Rattle.matching.proofs.PathLaws.{direct}
use Rattle.matching.proofs.HallLaws.{inside_less, stuck}
use Rattle.matching.proofs.extend.Goals as goal

pub returns-then-direct-ne0 : goal.returns-then-direct-ne0
returns-then-direct-ne0 c =
    let a = c.args in
    let m = c.requires.2 in
    let s = c.lowest-s.result in
    let l = c.lowest-s.ensures.1 in
    let i = in_and (row a.fits.now a.n) a.free s l.member in
    record {
      size = c.told-via;
      matched = direct a.fits.now a.owner.now (set a.owner.now s a.n) a.n a.stations a.free s _ m i.0 i.1
          (simp length-set m.size) (put_set a.owner.now s a.n (omega (arith, l.below, m.size)))
          (without_one 64 a.free s c.singleton.result c.ranges.free.fits l.below c.singleton.ensures);
    }

pub returns-then-hit-eq0 : goal.returns-then-hit-eq0
returns-then-hit-eq0 c =
    let a = c.args in
    let less : Inside a.fits.now a.n a.stations = inside_less a.fits.now a.n (a.n + 1) a.stations (omega arith) c.requires.1 in
    record {
      size = c.reachable-reach.ensures.size;
      matched = stuck a.fits.now a.owner.now _ a.n a.stations a.free c.reachable-reach.result less c.requires.2 c.reachable-reach.ensures c.requires.1
          (λ t. and_none (row a.fits.now a.n) c.reachable-reach.result t c.if-hit-eq0.true);
    }

pub augment-left-requires : goal.augment-left-requires
augment-left-requires c =
    let a = c.args in
    let i = in_and (row a.fits.now a.n) c.reachable-reach.result c.lowest.result c.lowest.ensures.1.member in (
      c.requires.0,
      record {
        matched = c.requires.2;
        rank = c.reachable-reach.ensures.rank;
        forest = c.reachable-reach.ensures.forest;
        hit = i.0;
        within = i.1;
      },
    )

pub returns : goal.returns
returns c =
    record {
      size = c.reachable-reach.ensures.size;
      matched = c.augment-left.ensures;
    }
