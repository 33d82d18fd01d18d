use mathlib.Core.Path.{◌≡◌, refl, ap, ◌∙◌}
use lib.ListN.{get_or, set}
use lib.Seq.{set-get_or}
use borrow.Author.Tests.{eqb-true, not-false}
use Rattle.bitset.specs.declared.Members.{Members}
use Rattle.bitset.proofs.BoolLaws.{or_false_l, or_false_r}
use Rattle.filter.proofs.StrikeLaws.{striking_start, striking_turn, striking_end}
use Rattle.filter.proofs.chaining.strike_closing.Goals as goal

pub loop-b-init : goal.loop-b-init
loop-b-init c =
    let same = ap (λ (m : Members). m.rest) c.into_iter-b-iterator.ensures.into_iter_gives ∙ c.of-b-items.ensures in
    (rw same (striking_start _ _ _ c.told-rows c.ranges.ends.fits), λ _. refl)

pub loop-b-preserved : goal.loop-b-preserved
loop-b-preserved c =
    let v = c.loop-b in
    let b = c.in-Some.b in
    let r = c.difference-left in (
      striking_turn _ _ _ _ _ _ _ c.in-Some.ensures.steps v.invariant.0 r.result r.ensures,
      λ e.
          let same : r.result ≡ get_or v.rows b 0 = eqb-true r.result (get_or v.rows b 0) (not-false _ (or_false_r v.struck _ e)) in
          ap (set v.rows b) same ∙ set-get_or v.rows b 0 ∙ v.invariant.1 (or_false_l v.struck _ e),
    )

pub returns : goal.returns
returns c = let v = c.loop-b in (striking_end _ _ _ _ v.rows v.invariant.0 c.in-None.ensures.steps.0, v.invariant.1)
