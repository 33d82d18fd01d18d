-- `idle::leaves_level` meets its contract. Assumes nothing.
use native.Mathlib.Omega.{arith}
use mathlib.Core.Path.{sym, ◌∙◌}
use lib.ListN.{set}
use Rattle.bitset.proofs.BoolLaws.{clash}
use Rattle.idle.proofs.PairLaws.{Lined, lined}
use Rattle.idle.proofs.idle.leaves_level.Goals.{After-ends_above}
use Rattle.idle.proofs.idle.leaves_level.Goals as goal

-- these, with the words of the levels below
words : (c : After-ends_above) → let a = c.args in
    let g = a.groups.now in
    Lined a.s g.groups g.count a.below.tails a.below.heads (set c.ends_above.new.fits.out g.count a.below.tails) (set c.ends_above.new.fits.into g.count a.below.heads)
words c =
    let e = c.ends_above.ensures in
    let few = c.args.groups.now.few in
    lined _ _ _ _ _ c.ends_above.new.fits.out c.ends_above.new.fits.into
    (λ g l. record { tail = (e.2 g l).0; head = (e.2 g l).1; pairs = e.3 g l })
    (omega (arith, e.0)) (omega (arith, e.1)) c.requires.0 c.requires.1

pub settles-requires : goal.settles-requires
settles-requires c = (omega (arith, c.args.groups.now.few), (words (goal.at.settles-requires c).After-ends_above).out_inside)

pub settles-requires-then-settles : goal.settles-requires-then-settles
settles-requires-then-settles c = (omega (arith, c.args.groups.now.few), (words (goal.at.settles-requires-then-settles c).After-ends_above).into_inside)

pub returns-then-settles : goal.returns-then-settles
returns-then-settles c =
    let w = words (goal.at.returns-then-settles c).After-ends_above in
    (w.pairs, w.tail, w.head, λ e. (c.settles.ensures c.if-settles.true, c.settles-then-settles.ensures e))

pub returns-else-settles : goal.returns-else-settles
returns-else-settles c =
    let w = words (goal.at.returns-else-settles c).After-ends_above in
    (w.pairs, w.tail, w.head, λ e. clash (sym e ∙ c.if-settles.false))
