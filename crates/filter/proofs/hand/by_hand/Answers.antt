-- `filter::by_hand` meets its contract.
use mathlib.Core.Path.{◌≡◌, sym, ap, ◌∙◌, subst}
use Rattle.circuit.specs.State.{rows_of}
use Rattle.circuit.specs.Round.{All}
use Rattle.circuit.specs.Verdict.{Sound}
use Rattle.filter.specs.Calls.{verdict, by_hand}
use Rattle.filter.specs.inner.Steps.{state_at}
use Rattle.filter.proofs.RuleLaws.{says_sound}
use Rattle.filter.proofs.hand.by_hand.Goals.{After-take-taken}
use Rattle.filter.proofs.hand.by_hand.Goals as goal

says : (c : After-take-taken) → verdict (state_at c.args.n c.args.rows.now c.args.limit c.args.at) c.args.rule ≡ (record { none = c.take-taken.result.none; left = c.take-taken.new.rows })
says c = c.take-taken.ensures.table.verdict

sound : (c : After-take-taken) → let w = (state_at c.args.n c.args.rows.now c.args.limit c.args.at) in Sound All w.n (rows_of w) (record { none = c.take-taken.result.none; left = c.take-taken.new.rows })
sound c = let w = (state_at c.args.n c.args.rows.now c.args.limit c.args.at) in
    subst (Sound All w.n (rows_of w)) (says c) (says_sound c.args.rule w.n (rows_of w) w.limit c.requires.0.most c.requires.1)

pub take-taken-requires : goal.take-taken-requires
take-taken-requires c =
    let g = c.requires.0 in
    (g.two, g.most, c.requires.1, g.table)

pub by_verdict-requires : goal.by_verdict-requires
by_verdict-requires c =
    let g = c.requires.0 in
    let L = c.take-taken.ensures in
    (g.most, g.table, (sound (goal.at.by_verdict-requires c).After-take-taken).sub, L.table.same, c.requires.2)

pub returns : goal.returns
returns c =
    c.by_verdict.ensures c.args.limit ∙ ap (by_hand (state_at c.args.n c.args.rows.now c.args.limit c.args.at)) (sym (says (goal.at.returns c).After-take-taken))
