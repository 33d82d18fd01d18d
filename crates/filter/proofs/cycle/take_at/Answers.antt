-- `filter::take_at` meets its contract.
use mathlib.Core.Path.{refl, ap, ◌∙◌}
use native.Mathlib.Omega.{arith}
use Rattle.filter.specs.declared.rule.Rule.{Rule}
use Rattle.filter.specs.Rule.{says, stray_seed}
use Rattle.filter.proofs.RuleLaws.{place_fits}
use Rattle.filter.proofs.TakeLaws.{table_as, left_alone}
use Rattle.filter.proofs.cycle.take_at.Goals as goal

pub is_known-requires : goal.is_known-requires
is_known-requires c = omega (arith, c.requires.1, c.args.net.now.most)

pub returns-then-is_known : goal.returns-then-is_known
returns-then-is_known c =
    let net = c.args.net.now in
    (refl, left_alone (c.is_known.ensures net.n c.args.limit net.rows c.requires.2 c.if-is_known.true))

pub take_on-requires : goal.take_on-requires
take_on-requires c =
    let n = c.args.net.now.n in
    (c.requires.0, ap (stray_seed n) c.at_place.ensures ∙ place_fits n c.args.place c.requires.1)

pub returns : goal.returns
returns c =
    let net = c.args.net.now in
    (c.take_on.ensures.0, table_as (ap (λ (r : Rule). says r net.n net.rows c.args.limit) c.at_place.ensures) c.take_on.ensures.1)
