-- `circuit::check_list_in` meets its contract.
use mathlib.Core.Path.{sym, ◌∙◌}
use mathlib.Core.Bool.{false}
use native.Mathlib.Omega.{arith}
use borrow.Author.Tests.{eq-eqb, ne_eqb}
use Rattle.circuit.specs.declared.card.End.TheVariants.{Open}
use Rattle.circuit.specs.Check.{check_call}
use Rattle.circuit.proofs.StateLaws.{good}
use Rattle.circuit.proofs.list.check_list_in.Goals as goal

pub returns-then-is_bad_state : goal.returns-then-is_bad_state
unfolding check_call
returns-then-is_bad_state c = λ mark end. rw (sym (c.is_bad_state.ensures mark end) ∙ c.if-is_bad_state.true)

pub returns-then-other : goal.returns-then-other
unfolding check_call
returns-then-other c = λ mark end. rw (sym (c.is_bad_state.ensures mark end) ∙ c.if-is_bad_state.false, ne_eqb _ _ c.if-other.true)

pub is_list-requires : goal.is_list-requires
is_list-requires c =
    let g = good _ (sym (c.is_bad_state.ensures false Open) ∙ c.if-is_bad_state.false) in
    (omega (arith, g.two), g.most, c.if-other.false)

pub returns : goal.returns
unfolding check_call
returns c =
    λ mark end.
    rw (sym (c.is_bad_state.ensures mark end) ∙ c.if-is_bad_state.false, eq-eqb _ _ c.if-other.false, c.is_list.ensures)
