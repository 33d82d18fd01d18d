-- `roads::is_two_way` meets its contract. Assumes nothing.
use mathlib.Core.Path.{sym, ap, ◌∙◌}
use mathlib.Core.Bool.{Bool, ◌&&◌}
use borrow.Author.Tests.{le-leb, lt-leb}
use Rattle.roads.specs.Cut.{mirrored, is_two_way}
use Rattle.roads.proofs.checks.is_two_way.Goals as goal

pub returns-then-n-ge3 : goal.returns-then-n-ge3
unfolding is_two_way
returns-then-n-ge3 c = let a = c.args in c.is_mirrored.ensures ∙ sym (ap (λ (b : Bool). b && mirrored a.n a.rows.now) (le-leb 3 a.n c.if-n-ge3.true))

pub returns-else-n-ge3 : goal.returns-else-n-ge3
unfolding is_two_way
returns-else-n-ge3 c = let a = c.args in let e = lt-leb 3 a.n c.if-n-ge3.false in e ∙ sym (ap (λ (b : Bool). b && mirrored a.n a.rows.now) e)
