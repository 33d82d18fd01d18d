use borrow.Author.Rules.{rules}
use native.Mathlib.Omega.{arith}
use mathlib.Core.Path.{◌∙◌}
use native.Mathlib.Nat.{not-suc-le-zero}
use lib.ListN.{length-set}
use Rattle.idle.proofs.PairLaws.{joining_more}
use Rattle.idle.proofs.idle.ends_above.Goals as goal

pub loop-g-init : goal.loop-g-init
loop-g-init c = record { out_size = search rules; into_size = search rules; joining = λ k l. absurd (not-suc-le-zero l) }

pub loop-g-preserved : goal.loop-g-preserved
loop-g-preserved c =
    let v = c.loop-g in
    let J = v.invariant in
    let e = c.ends_in-ends.ensures in
    record {
      out_size = length-set v.fits.out v.g c.ends_in-ends.result.tails ∙ J.out_size;
      into_size = length-set v.fits.into v.g c.ends_in-ends.result.heads ∙ J.into_size;
      joining =
          joining_more _ _ v.g _ v.fits.out v.fits.into _ _ J.joining (omega arith) (omega arith)
          (record { tail = e.0; head = e.1; pairs = λ t u b room G. e.2 t u room G.pivot G.ahead G.back })
          (omega arith);
    }

pub returns : goal.returns
returns c =
    let J = c.loop-g.invariant in
    (J.out_size, J.into_size, λ g l. let W = J.joining g (omega arith) in (W.tail, W.head), λ g l. (J.joining g (omega arith)).pairs)
