-- `Group::started` meets its contract. Assumes nothing.
use mathlib.Core.Path.{◌≡◌, sym, ◌∙◌, subst}
use Prim.Native.Nat.{ℕ, ◌^◌}
use Rattle.bitset.specs.inner.Members.{Least}
use Rattle.bitset.proofs.MachineLaws.{pow_set_of}
use Rattle.separator.specs.inner.Reach.{LedFrom}
use Rattle.idle.proofs.GroupLaws.{started_group, started_has}
use Rattle.idle.proofs.group.Group.started.Goals as goal

pub returns : goal.returns
returns c =
    let w = c.args.ways in
    let left = c.args.left in
    let low : Least 64 left c.lowest.result = c.lowest.ensures.1 in
    let p : ℕ = c.lowest.result in
    let one : c.singleton-pivot.result ≡ 2 ^ p = c.singleton-pivot.ensures ∙ sym (pow_set_of 64 p low.below) in
    let a = subst (λ (v : ℕ). LedFrom w.net.now.rows left v c.led_from-ahead.result) one c.led_from-ahead.ensures in
    let b = subst (λ (v : ℕ). LedFrom w.net.now.cols left v c.led_from-back.result) one c.led_from-back.ensures in (
      λ room part. started_group w p a b c.grown-part.ensures room part low.member,
      (p, low.member, started_has w p a b c.grown-part.ensures low.below),
    )
