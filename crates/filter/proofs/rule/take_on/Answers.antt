-- `filter::take_on` meets its contract.
use mathlib.Core.Path.{refl, sym, ap, ◌∙◌}
use Rattle.circuit.specs.Legs.{columns}
use Rattle.circuit.proofs.StateLaws.{stray_row_lem}
use Rattle.filter.specs.declared.rule.Rule.{Rule}
use Rattle.filter.specs.Rule.{says}
use Rattle.filter.proofs.RuleLaws.{seed_least, seed_index, pass_says}
use Rattle.filter.proofs.TakeLaws.{table_as}
use Rattle.filter.proofs.rule.take_on.Goals as goal

pub renew-requires : goal.renew-requires
renew-requires c =
    let net = c.args.net.now in
    let L = c.sweep_rows-taken.ensures in
    (net.most, stray_row_lem _ _ net.most L.clean, λ e. net.columned.columns ∙ ap (columns net.n) (sym (L.table.same e)))

pub invariant_of-net : goal.invariant_of-net
invariant_of-net c =
    record { most = c.args.net.now.most; columned = record { clean = c.sweep_rows-taken.ensures.clean; len = c.sweep_rows-taken.ensures.len; columns = c.renew.ensures } }

pub renew-requires-in-Chain : goal.renew-requires-in-Chain
renew-requires-in-Chain c =
    let net = c.args.net.now in
    let L = c.chain_rows-taken.ensures in
    (net.most, stray_row_lem _ _ net.most L.clean, λ e. net.columned.columns ∙ ap (columns net.n) (sym (L.table.same e)))

pub invariant_of-net-in-Chain : goal.invariant_of-net-in-Chain
invariant_of-net-in-Chain c =
    record { most = c.args.net.now.most; columned = record { clean = c.chain_rows-taken.ensures.clean; len = c.chain_rows-taken.ensures.len; columns = c.renew-in-Chain.ensures } }

pub overflow_sub-seed : goal.overflow_sub-seed
overflow_sub-seed c = seed_least c.args.rule _ c.in-Pass.is c.args.net.now.n c.requires.1

pub pass_on-requires : goal.pass_on-requires
pass_on-requires c = seed_index c.args.rule _ c.in-Pass.is c.args.net.now.n c.requires.1

pub returns-in-Sweep : goal.returns-in-Sweep
unfolding says
returns-in-Sweep c =
    let net = c.args.net.now in
    (refl, table_as (ap (λ (r : Rule). says r net.n net.rows c.args.limit) (sym c.in-Sweep.is)) c.sweep_rows-taken.ensures.table)

pub returns-in-Chain : goal.returns-in-Chain
unfolding says
returns-in-Chain c =
    let net = c.args.net.now in
    (refl, table_as (ap (λ (r : Rule). says r net.n net.rows c.args.limit) (sym c.in-Chain.is)) c.chain_rows-taken.ensures.table)

pub returns-in-Pass : goal.returns-in-Pass
returns-in-Pass c =
    let net = c.args.net.now in
    (c.pass_on.ensures.0, table_as (pass_says c.args.rule _ c.in-Pass.is net.n c.requires.1 net.rows c.args.limit) c.pass_on.ensures.1)
