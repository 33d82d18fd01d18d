-- `circuit::End::is_none` meets its contract.
use Rattle.std.proofs.Common.{◌≡◌, refl, sym, ap, false}
use Rattle.circuit.specs.declared.card.End.{End}
use Rattle.circuit.specs.declared.card.End.TheVariants.{Open, Stable, None}
use Rattle.circuit.specs.State.{is_none}
use Rattle.circuit.proofs.card.End.is_none.Goals as goal

-- an end that is not None is not none
others : (e : End) → ¬ (e ≡ None) → false ≡ is_none e
others Open h = refl
others Stable h = refl
others None h = absurd (h refl)

pub returns-in-None : goal.returns-in-None
returns-in-None c = sym (ap is_none c.in-None.is)

pub returns-in_default : goal.returns-in_default
returns-in_default c = others c.args.self c.in_default.not-None
