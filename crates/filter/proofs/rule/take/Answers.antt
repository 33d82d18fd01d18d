-- `filter::take` meets its contract.
use mathlib.Core.Path.{sym, ap}
use Rattle.filter.specs.declared.rule.Rule.{Rule}
use Rattle.filter.specs.Rule.{says}
use Rattle.filter.proofs.RuleLaws.{seed_least, seed_index, pass_says}
use Rattle.filter.proofs.TakeLaws.{rows_as}
use Rattle.filter.proofs.rule.take.Goals as goal

pub overflow_sub-seed : goal.overflow_sub-seed
overflow_sub-seed c = seed_least c.args.rule _ c.in-Pass.is c.args.n c.requires.2

pub pass_rows-requires : goal.pass_rows-requires
pass_rows-requires c = (c.requires.1, seed_index c.args.rule _ c.in-Pass.is c.args.n c.requires.2, c.requires.3)

pub returns-in-Sweep : goal.returns-in-Sweep
unfolding says
returns-in-Sweep c =
    let a = c.args in
    rows_as (ap (λ (r : Rule). says r a.n a.rows.now a.limit) (sym c.in-Sweep.is)) c.sweep_rows.ensures

pub returns-in-Chain : goal.returns-in-Chain
unfolding says
returns-in-Chain c =
    let a = c.args in
    rows_as (ap (λ (r : Rule). says r a.n a.rows.now a.limit) (sym c.in-Chain.is)) c.chain_rows.ensures

pub returns-in-Pass : goal.returns-in-Pass
returns-in-Pass c = rows_as (pass_says c.args.rule _ c.in-Pass.is c.args.n c.requires.2 c.args.rows.now c.args.limit) c.pass_rows.ensures
