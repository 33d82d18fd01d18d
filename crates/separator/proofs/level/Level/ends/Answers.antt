use native.Mathlib.Omega.{arith}
use mathlib.Core.Path.{ap, ◌∙◌, subst}
use Prim.Native.Nat.{ℕ}
use Rattle.bitset.specs.declared.Members.{Members}
use Rattle.separator.specs.inner.Spares.{CoreOf}
use Rattle.separator.proofs.MarkingLaws.{marked_pair}
use Rattle.separator.proofs.EndsLaws.{least_in, heads_is, gather_start, gather_turn, gather_end}
use Rattle.separator.proofs.level.Level.ends.Goals as goal

pub loop-i-init : goal.loop-i-init
loop-i-init c =
    gather_start _ _ (ap (λ (m : Members). m.rest) c.into_iter-i-iterator.ensures.into_iter_gives ∙ c.of-i-items.ensures) (omega arith)

pub heads_from-requires : goal.heads_from-requires
heads_from-requires c =
    (c.in-Some.ensures.steps.below, c.requires, subst (λ (w : ℕ). CoreOf c.args.self.now.net.now.rows w c.core-core.result) c.part.ensures c.core-core.ensures)

pub loop-i-preserved : goal.loop-i-preserved
loop-i-preserved c =
    let l = c.loop-i in
    let a = c.args.self.now in
    let step = c.in-Some.ensures.steps in
    gather_turn _ _ _ c.insert_if-tails.result l.invariant step
    (heads_is a.net.now.rows a.s a.parts.now c.in-Some.i c.args.m c.heads_from.result step.below (l.invariant.within _ (least_in l.invariant.rest_fits step)) c.heads_from.ensures)
    c.insert_if-tails.ensures

pub returns : goal.returns
returns c =
    let a = c.args.self.now in
    gather_end _ a.s (λ i j e. (marked_pair 64 a.net.now.rows a.s a.parts.now i j c.args.m e).0) c.loop-i.invariant c.in-None.ensures.steps.0
