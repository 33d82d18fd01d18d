use borrow.Author.Rules.{rules}
use mathlib.Core.Path.{◌≡◌, sym, ◌∙◌, subst}
use Prim.Native.Nat.{ℕ, ◌+◌, ◌-◌, ◌^◌}
use native.Mathlib.Omega.{arith}
use lib.Bits.{bit_or}
use Rattle.bitset.specs.Upto.{row}
use Rattle.bitset.proofs.MachineLaws.{pow_set_of}
use Rattle.idle.specs.inner.Groups.{Spans}
use Rattle.separator.specs.inner.Reach.{LedFrom}
use Rattle.idle.proofs.GroupLaws.{part_or_l, part_or_r, reaches_wider}
use Rattle.idle.proofs.PlaceLaws.{spans_up}
use Rattle.idle.proofs.RisingLaws.{Rising, rising_start, rising_ahead, rising_back, rising_turn}
use Rattle.idle.proofs.idle.rise.Goals as goal

pub loop-k-init : goal.loop-k-init
loop-k-init c =
    let a = c.args in
    let e : c.singleton-seen.result ≡ 2 ^ a.seed = c.singleton-seen.ensures ∙ sym (pow_set_of 64 a.seed c.requires.0) in
    subst (λ (x : ℕ). Rising a.net.now.rows a.net.now.cols a.found.now.level a.seed a.ends.now x c.led_from-ahead.result c.led_from-back.result 1) (sym e)
    (rising_start (search rules) c.requires.3
    (subst (λ (x : ℕ). LedFrom a.net.now.rows 0 x c.led_from-ahead.result) e c.led_from-ahead.ensures)
    (subst (λ (x : ℕ). LedFrom a.net.now.cols 0 x c.led_from-back.result) e c.led_from-back.ensures))

pub loop-k-preserved : goal.loop-k-preserved
loop-k-preserved c =
    let l = c.loop-k in
    let s : ℕ = row c.args.found.now.level l.k in
    let R = l.invariant in
    rising_turn R _ _ _ (omega arith) (c.ends_in.ensures.2 _ _ l.seen _ R.leads R.led)
    (c.led_on-ahead.ensures (bit_or l.seen s) _ (λ x e. e) (part_or_r l.seen s) (rising_ahead R))
    (c.led_on-back.ensures (bit_or l.seen s) _ (λ x e. e) (part_or_r l.seen s) (rising_back R))

pub returns-then-leads_to_all : goal.returns-then-leads_to_all
returns-then-leads_to_all c =
    let l = c.loop-k in
    let a = c.args in
    let last : ℕ = a.found.now.count - 1 in
    let s : ℕ = row a.found.now.level last in
    let w : ℕ = bit_or l.seen s in
    let R = l.invariant in
    let at : l.k ≡ last = omega (arith, c.requires.1) in
    let all : last + 1 ≡ a.found.now.count = omega (arith, c.requires.1) in
    let spans : Spans a.found.now.level 0 last l.seen = subst (λ (k : ℕ). Spans a.found.now.level 0 k l.seen) at R.spans in (
      λ j b d. R.pairs j b (omega arith),
      λ e. (
        w,
        subst (λ (k : ℕ). Spans a.found.now.level 0 k w) all (spans_up (omega arith) spans),
        λ x h. (
          c.leads_to_all.ensures w _ (part_or_l l.seen s) (part_or_r l.seen s) (reaches_wider R.leads (part_or_l l.seen s)) c.if-leads_to_all.true x h,
          c.leads_to_all-then-leads_to_all.ensures w _ (part_or_l l.seen s) (part_or_r l.seen s) (reaches_wider R.led (part_or_l l.seen s)) e x h,
        ),
      ),
    )
