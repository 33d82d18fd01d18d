use mathlib.Core.Path.{◌≡◌, refl, ap, ◌∙◌}
use Prim.Native.Nat.{ℕ}
use lib.ListN.{set}
use lib.Seq.{set-get_or}
use borrow.Author.Tests.{eqb-true, not-false}
use Rattle.bitset.specs.declared.Members.{Members}
use Rattle.bitset.specs.Upto.{row}
use Rattle.bitset.proofs.BoolLaws.{or_false_l, or_false_r}
use Rattle.separator.proofs.EndsLaws.{least_in}
use Rattle.separator.proofs.CutLaws.{cutting_start, cutting_turn, cutting_end}
use Rattle.separator.proofs.level.cut.Goals as goal

pub loop-i-init : goal.loop-i-init
loop-i-init c = (
  cutting_start _ _ _ _ (ap (λ (m : Members). m.rest) c.into_iter-i-iterator.ensures.into_iter_gives ∙ c.of-i-items.ensures) c.ranges.s.fits c.told-words,
  λ _. refl,
)

pub cut_word-left-requires : goal.cut_word-left-requires
cut_word-left-requires c =
    let v = c.loop-i.invariant.0 in
    let step = c.in-Some.ensures.steps in
    (step.below, v.within _ (least_in v.rest_fits step))

pub loop-i-preserved : goal.loop-i-preserved
loop-i-preserved c =
    let l = c.loop-i in
    let r : ℕ = c.cut_word-left.result in
    let i : ℕ = c.in-Some.i in (
      cutting_turn _ _ _ _ r l.invariant.0 c.in-Some.ensures.steps c.cut_word-left.ensures,
      λ e.
          let same : r ≡ row l.words i = eqb-true r (row l.words i) (not-false _ (or_false_r l.struck _ e)) in
          ap (set l.words i) same ∙ set-get_or l.words i 0 ∙ l.invariant.1 (or_false_l l.struck _ e),
    )

pub returns : goal.returns
returns c = (cutting_end _ _ _ _ c.loop-i.invariant.0 c.in-None.ensures.steps.0, c.loop-i.invariant.1)
