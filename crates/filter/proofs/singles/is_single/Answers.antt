-- `filter::is_single` meets its contract.
use mathlib.Core.Path.{sym, ap, ◌∙◌}
use native.Mathlib.Omega.{arith}
use Rattle.filter.specs.inner.Singles.{single}
use Rattle.filter.proofs.OneLaws.{zero_single, single_test}
use Rattle.filter.proofs.singles.is_single.Goals as goal

pub returns-then-w-eq0 : goal.returns-then-w-eq0
returns-then-w-eq0 c = sym (ap single c.if-w-eq0.true ∙ zero_single)

pub returns : goal.returns
returns c = single_test c.args.w (omega arith) (omega arith)
