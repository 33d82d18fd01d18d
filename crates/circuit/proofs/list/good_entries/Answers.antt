use mathlib.Core.Path.{◌≡◌, refl}
use native.Mathlib.Numerals.{add-one}
use native.Mathlib.Omega.{arith}
use Rattle.bitset.specs.Sets.{all}
use Rattle.circuit.specs.inner.Lists.{good_entries}
use Rattle.circuit.proofs.list.good_entries.Goals as goal

pub loop-i-init : goal.loop-i-init
unfolding all
loop-i-init c = refl

pub loop-i-preserved : goal.loop-i-preserved
unfolding all
loop-i-preserved c = rw (add-one, c.good_entry-good.ensures, c.loop-i.invariant)

pub returns : goal.returns
unfolding good_entries
returns c = let e : c.loop-i.i ≡ c.args.n = omega (arith, c.requires.1) in rw e at c.loop-i.invariant
