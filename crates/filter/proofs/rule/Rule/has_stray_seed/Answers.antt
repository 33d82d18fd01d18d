-- `filter::Rule::has_stray_seed` meets its contract.
use mathlib.Core.Path.{◌≡◌, sym, ap, ◌∙◌}
use mathlib.Core.Logic.{⊎_elim}
use Rattle.filter.specs.declared.rule.Rule.TheVariants.{Sweep, Chain}
use Rattle.filter.specs.Rule.{stray_seed}
use Rattle.filter.proofs.rule.Rule.has_stray_seed.Goals as goal

pub returns-in-Sweep : goal.returns-in-Sweep
returns-in-Sweep c =
    ⊎_elim (λ (e : c.args.self ≡ Sweep). sym (ap (stray_seed c.args.n) e)) (λ (e : c.args.self ≡ Chain). sym (ap (stray_seed c.args.n) e)) c.in-Sweep.is

pub returns-in-Pass : goal.returns-in-Pass
returns-in-Pass c =
    c.outside.ensures ∙ sym (ap (stray_seed c.args.n) c.in-Pass.is)
