use mathlib.Core.Path.{◌≡◌, refl, sym, ◌∙◌, subst}
use mathlib.Core.Bool.{true, false}
use Prim.Native.Nat.{ℕ, ◌+◌, ◌^◌, ◌<◌}
use native.Mathlib.Omega.{arith}
use lib.Bits.{bit_or}
use Rattle.bitset.specs.Upto.{row}
use Rattle.bitset.specs.Sets.{has}
use Rattle.bitset.proofs.MachineLaws.{pow_set_of, full_set_of}
use Rattle.roads.proofs.GrowLaws.{Growing, next_is, count_below, growing_more, growing_first, grown_all, grown_apart}
use Rattle.roads.proofs.tree.spanning.Goals.{After-lowest-u}
use Rattle.roads.proofs.tree.spanning.Goals as goal

pub loop-p-init : goal.loop-p-init
loop-p-init c = growing_first c.args.n c.args.rows.now _ c.requires.0 refl

-- the road from p leads to u, outside
leads : (c : After-lowest-u) → (has (row c.args.rows.now c.in-Some.p) c.lowest-u.result ≡ true) × (has c.loop-p.seen c.lowest-u.result ≡ false)
leads c = next_is _ c.loop-p.seen _ (omega arith) c.lowest-u.ensures.1

-- there is room for a word more
room : (c : After-lowest-u) → c.loop-p.count < 64
room c = let s = c.requires in
    let e = leads c in
    count_below s.1 s.2 s.3 c.loop-p.invariant c.in-Some.p c.in-Some.ensures.1 c.lowest-u.result e.0 e.1

pub join-requires : goal.join-requires
join-requires c = (room (goal.at.join-requires c).After-lowest-u, c.in-Some.ensures.0, c.lowest-u.ensures.1.below)

pub loop-p-smaller : goal.loop-p-smaller
loop-p-smaller c = omega (arith, room (goal.at.loop-p-smaller c).After-lowest-u)

pub loop-p-preserved : goal.loop-p-preserved
loop-p-preserved c = let s = c.requires in
    let e = leads (goal.at.loop-p-preserved c).After-lowest-u in
    let u : ℕ = c.lowest-u.result in
    let new : c.singleton-seen.result ≡ 2 ^ u = c.singleton-seen.ensures ∙ sym (pow_set_of 64 u c.lowest-u.ensures.1.below) in
    subst (λ (w : ℕ). Growing c.args.n c.args.rows.now (c.loop-p.count + 1) (bit_or c.loop-p.seen w) (row c.join.new.words)) (sym new)
    (growing_more s.1 s.2 s.3 c.loop-p.invariant c.in-Some.p c.in-Some.ensures.1 u e.0 e.1 _ c.join.ensures)

pub returns-then-seen-full : goal.returns-then-seen-full
returns-then-seen-full c =
    grown_all c.args.n c.args.rows.now _ _ _ c.loop-p.invariant (c.if-seen-full.true ∙ c.full.ensures ∙ sym (full_set_of 64 c.args.n c.requires.1))

pub returns-else-seen-full : goal.returns-else-seen-full
returns-else-seen-full c = (
  c.loop-p.seen,
  grown_apart c.args.n c.args.rows.now _ _ _ c.requires.1 c.loop-p.invariant c.in_default.ensures
      (λ e. c.if-seen-full.false (e ∙ full_set_of 64 c.args.n c.requires.1 ∙ sym c.full.ensures)),
)
