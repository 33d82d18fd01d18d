-- `roads::parted` meets its contract. Assumes nothing.
use mathlib.Core.Path.{sym, ◌∙◌}
use Rattle.bitset.specs.Sets.{has}
use Rattle.bitset.proofs.HasLaws.{has_not}
use Rattle.roads.proofs.XorLaws.{xor_in, xor_out}
use Rattle.roads.proofs.marking.parted.Goals as goal

pub returns-then-contains : goal.returns-then-contains
returns-then-contains c = let a = c.args in
    λ j l. has_not 64 a.x j c.ranges.x.fits l ∙ xor_in (has a.x a.i) (has a.x j) (sym c.contains.ensures ∙ c.if-contains.true)

pub returns-else-contains : goal.returns-else-contains
returns-else-contains c = let a = c.args in
    λ j l. xor_out (has a.x a.i) (has a.x j) (sym c.contains.ensures ∙ c.if-contains.false)
