-- `output::print` meets its contract. Assumes nothing.
use mathlib.Core.Path.{sym, ap, ◌∙◌}
use Rattle.circuit.specs.declared.card.Answer.TheVariants.{Taken}
use Rattle.circuit.specs.Card.{number}
use Rattle.circuit.proofs.CardLaws.{number_one}
use Rattle.circuit.proofs.FillLaws.{fills_as}
use Rattle.sheet.specs.declared.Opened.{Opened}
use Rattle.output.specs.Program.{opened_text, program_text}
use Rattle.output.proofs.PrintLaws.{opened_taken, opened_refused, taken_good}
use Rattle.output.proofs.print.Goals as goal

pub print_taken-requires : goal.print_taken-requires
print_taken-requires c =
    let o = c.open-opened.ensures in
    rw o (taken_good c.args.sheet.now (ap (λ (x : Opened). number x.answer) (sym o) ∙ ap number c.in-Taken.is))

pub returns-in-Taken : goal.returns-in-Taken
unfolding program_text
returns-in-Taken c =
    let o = c.open-opened.result in
    let p = fills_as (opened_taken o (ap number c.in-Taken.is) ∙ ap opened_text c.open-opened.ensures) c.print_taken.ensures in
    (p.result, p.bytes)

pub returns-in_default : goal.returns-in_default
unfolding program_text
returns-in_default c =
    let o = c.open-opened.result in
    let line = opened_refused o (λ z. c.in_default.not-Taken (number_one o.answer Taken z)) in
    let p = fills_as (line ∙ ap opened_text c.open-opened.ensures) c.print_refused.ensures in
    (p.result, p.bytes)
