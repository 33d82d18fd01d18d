use mathlib.Core.Path.{◌≡◌, refl}
use native.Mathlib.Nat.{not-suc-le-zero}
use native.Mathlib.Omega.{arith}
use Rattle.bitset.proofs.BoolLaws.{not_both}
use Rattle.matching.proofs.HallLaws.{exact}
use Rattle.matching.proofs.assign.Goals as goal

pub loop-n-init : goal.loop-n-init
loop-n-init c =
    record {
      size = refl;
      to = λ c. 0;
      good = record { fit = λ c l. absurd (not-suc-le-zero l); apart = λ c d l _. absurd (not-suc-le-zero l) };
      inside = λ s i. i;
      vacant = λ s c i l. absurd (not-suc-le-zero l);
      owned = λ s i o. absurd (not_both i o);
    }

pub returns : goal.returns
returns c =
    let a = c.args in
    let e : a.p ≡ c.loop-n.n = omega arith in
    exact a.fits.now c.loop-n.owner _ a.p a.stations c.loop-n.free c.reachable-spare.result c.requires.1 (rw e c.loop-n.invariant) c.reachable-spare.ensures
