-- `filter::removals` meets its contract.
use mathlib.Core.Path.{ap}
use native.Mathlib.Omega.{arith}
use Rattle.circuit.specs.Legs.{legs}
use Rattle.circuit.proofs.StateLaws.{stray_row_lem}
use Rattle.filter.proofs.counting.removals.Goals as goal

pub legs_gone-requires : goal.legs_gone-requires
legs_gone-requires c = (c.requires.0, stray_row_lem _ _ c.requires.0 c.requires.1, stray_row_lem _ _ c.requires.0 c.requires.2, c.requires.3)

pub returns-then-struck : goal.returns-then-struck
returns-then-struck c = c.legs_gone.ensures

-- the table stayed
pub returns-else-struck : goal.returns-else-struck
returns-else-struck c = let same = ap (legs c.args.n) (c.requires.4 c.if-struck.false) in omega (arith, same)
