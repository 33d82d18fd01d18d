-- `filter::is_known` meets its contract.
use mathlib.Core.Path.{sym, ◌∙◌}
use native.Mathlib.Omega.{arith}
use Rattle.bitset.proofs.BoolLaws.{clash}
use Rattle.filter.proofs.IdleLaws.{idle_says}
use Rattle.filter.proofs.cycle.is_known.Goals as goal

pub returns-then-place-lt2 : goal.returns-then-place-lt2
returns-then-place-lt2 c = λ n limit t I yes. clash (sym yes)

pub returns : goal.returns
returns c = λ n limit t I yes.
    idle_says n limit t c.args.idle I c.args.place (omega (arith, c.if-place-lt2.false)) (sym c.contains.ensures ∙ yes)
