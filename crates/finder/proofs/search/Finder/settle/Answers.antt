-- `Finder::settle` meets its contract.
use mathlib.Core.Path.{ap}
use Rattle.filter.specs.declared.cycle.Ran.{Ran}
use Rattle.finder.specs.Search.{settled}
use Rattle.finder.proofs.NodeLaws.{settles_known, settles_none, settles_run}
use Rattle.finder.proofs.search.Finder.settle.Goals as goal

pub returns-then-known-clause-settles : goal.returns-then-known-clause-settles
returns-then-known-clause-settles c = settles_known _ (c.requires.1 c.if-known.true)

pub returns-then-comes_to_none-clause-settles : goal.returns-then-comes_to_none-clause-settles
returns-then-comes_to_none-clause-settles c = settles_none _ _ (c.comes_to_none.ensures.none c.if-comes_to_none.true)

pub returns-clause-settles : goal.returns-clause-settles
unfolding settled
returns-clause-settles c =
    let k = c.comes_to_none.ensures.same.kept in
    settles_run _ _ _ c.requires.0 c.is_none.ensures (ap (λ (r : Ran). r.work) (rw (k.n, k.limit) at c.run_in-ran.ensures.0))
