-- `filter::clashes` meets its contract.
use mathlib.Core.Path.{ap}
use mathlib.Core.Bool.{Bool, not, ◌||◌}
use native.Mathlib.Omega.{arith}
use lib.Bits.{bit_and}
use lib.Dec.{eqb}
use Rattle.filter.proofs.OneLaws.{more_test}
use Rattle.filter.proofs.EnterLaws.{free_none}
use Rattle.filter.proofs.chaining.clashes.Goals as goal

pub returns-then-w-eq0 : goal.returns-then-w-eq0
returns-then-w-eq0 c = let a = c.args in free_none a.w a.set c.if-w-eq0.true

pub returns : goal.returns
returns c = let a = c.args in ap (λ (b : Bool). b || not (eqb (bit_and a.set a.w) 0)) (more_test a.w (omega arith) (omega arith))
