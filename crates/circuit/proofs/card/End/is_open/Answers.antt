-- `circuit::End::is_open` meets its contract.
use Rattle.std.proofs.Common.{◌≡◌, refl, sym, ap, false}
use Rattle.circuit.specs.declared.card.End.{End}
use Rattle.circuit.specs.declared.card.End.TheVariants.{Open, Stable, None}
use Rattle.circuit.specs.State.{is_open}
use Rattle.circuit.proofs.card.End.is_open.Goals as goal

-- an end that is not Open is not open
others : (e : End) → ¬ (e ≡ Open) → false ≡ is_open e
others Open h = absurd (h refl)
others Stable h = refl
others None h = refl

pub returns-in-Open : goal.returns-in-Open
returns-in-Open c = sym (ap is_open c.in-Open.is)

pub returns-in_default : goal.returns-in_default
returns-in_default c = others c.args.self c.in_default.not-Open
