-- `filter::add_leg` meets its contract.
use mathlib.Core.Path.{◌∙◌}
use Rattle.filter.proofs.EnterLaws.{columns_skip, leg_added}
use Rattle.filter.proofs.chaining.add_leg.Goals as goal

pub returns-then-w-ne0 : goal.returns-then-w-ne0
returns-then-w-ne0 c =
    let least = c.lowest-j.ensures.1 in
    λ m is legs. leg_added m _ c.args.i c.lowest-j.result c.args.w c.requires.0 least.below c.ranges.w.fits least.member c.requires.1 is legs

pub returns-else-w-ne0 : goal.returns-else-w-ne0
returns-else-w-ne0 c = λ m is legs. legs ∙ columns_skip m c.args.i (is ∙ c.if-w-ne0.false)
