-- `roads::are_roads` meets its contract. Assumes nothing.
use mathlib.Core.Path.{sym, ap, ◌∙◌}
use mathlib.Core.Bool.{Bool, ◌&&◌}
use Rattle.roads.specs.Cut.{mirrored, are_roads}
use Rattle.roads.proofs.checks.are_roads.Goals as goal

pub returns-then-is_inside : goal.returns-then-is_inside
unfolding are_roads
returns-then-is_inside c = c.is_mirrored.ensures ∙ sym (ap (λ (b : Bool). b && mirrored 64 c.args.must.now) (sym c.is_inside.ensures ∙ c.if-is_inside.true))

pub returns-else-is_inside : goal.returns-else-is_inside
unfolding are_roads
returns-else-is_inside c = c.if-is_inside.false ∙ sym (ap (λ (b : Bool). b && mirrored 64 c.args.must.now) (sym c.is_inside.ensures ∙ c.if-is_inside.false))
