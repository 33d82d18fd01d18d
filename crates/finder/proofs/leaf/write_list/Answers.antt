use mathlib.Core.Path.{refl, ◌∙◌}
use native.Mathlib.Omega.{arith}
use native.Mathlib.Numerals.{add-one}
use Rattle.bitset.proofs.UptoLaws.{filled_none, filled_more, filled_all}
use Rattle.finder.specs.Search.{list_in}
use Rattle.finder.proofs.leaf.write_list.Goals as goal

pub loop-i-init : goal.loop-i-init
loop-i-init c = filled_none _ _ _ refl

pub bounds-list-i : goal.bounds-list-i
bounds-list-i c = omega (arith, c.loop-i.invariant.len)

pub loop-i-preserved : goal.loop-i-preserved
loop-i-preserved c = filled_more _ c.loop-i.invariant (omega arith) (c.number.ensures ∙ add-one _)

pub shape_of-list : goal.shape_of-list
shape_of-list c = c.loop-i.invariant.len

pub returns : goal.returns
unfolding list_in
returns c = filled_all c.loop-i.invariant (omega arith)
