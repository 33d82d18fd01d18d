use mathlib.Core.Path.{sym, ap, ◌∙◌}
use Prim.Native.Nat.{ℕ, ◌-◌}
use native.Mathlib.Omega.{arith}
use lib.Bits.{and_le_l}
use Rattle.bitset.specs.Sets.{has}
use Rattle.bitset.specs.declared.Members.{Members}
use Rattle.bitset.proofs.BoolLaws.{and_l}
use Rattle.bitset.proofs.HasLaws.{has_zero}
use Rattle.roads.proofs.CountLaws.{least_member, others_has}
use Rattle.roads.proofs.GrowLaws.{shut_if, shut_other, shut_more}
use Rattle.roads.proofs.tree.outlet.Goals as goal

pub loop-p-init : goal.loop-p-init
loop-p-init c =
    let same = ap (λ (m : Members). m.rest) c.into_iter-p-iterator.ensures.into_iter_gives ∙ c.of-p-items.ensures in
    record {
      fits = omega (arith, same);
      within = λ q l t. sym (ap (λ (s : ℕ). has s q) same) ∙ t;
      shut = λ q l e. shut_other c.args.rows.now c.args.seen q (sym (ap (λ (s : ℕ). has s q) same) ∙ e);
    }

pub returns-then-rows-p-ne0 : goal.returns-then-rows-p-ne0
returns-then-rows-p-ne0 c =
    let step = c.in-Some.ensures.steps in
    let v = c.loop-p.invariant in
    (step.below, v.within c.in-Some.p step.below (least_member step v.fits), omega (arith, c.if-rows-p-ne0.true))

pub loop-p-preserved : goal.loop-p-preserved
loop-p-preserved c =
    let step = c.in-Some.ensures.steps in
    let v = c.loop-p.invariant in
    let rest : ℕ = c.loop-p.p-iterator.rest in
    record {
      fits = omega (arith, step.others, and_le_l rest (rest - 1));
      within = λ q l t. v.within q l (and_l (has rest q) _ (sym (others_has step v.fits q) ∙ t));
      shut = shut_more c.args.rows.now c.args.seen rest c.in-Some.p c.next.new.self.rest step v.fits (shut_if c.args.rows.now c.args.seen c.in-Some.p c.ranges.seen.fits c.if-rows-p-ne0.false) v.shut;
    }

pub returns : goal.returns
returns c = λ p l. c.loop-p.invariant.shut p l (ap (λ (s : ℕ). has s p) c.in-None.ensures.steps.0 ∙ has_zero p)
