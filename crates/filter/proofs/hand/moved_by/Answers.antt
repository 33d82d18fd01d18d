-- `filter::moved_by` meets its contract: a return for each of the hand rules.
use mathlib.Core.Path.{sym, ap, ap₂, ◌∙◌}
use mathlib.Core.Bool.{Bool}
use mathlib.Core.List.{List}
use Prim.Native.Nat.{ℕ, ◌≤◌}
use native.Mathlib.Omega.{arith}
use borrow.Author.Tests.{lt-ltb, le-ltb}
use Rattle.circuit.specs.declared.card.End.TheVariants.{None}
use Rattle.circuit.specs.State.{rows_of, moved}
use Rattle.filter.specs.Calls.{gone}
use Rattle.filter.proofs.HandLaws.{hand_none, hand_gone, hand_same}
use Rattle.filter.proofs.hand.moved_by.Goals as goal

pub returns-then-none : goal.returns-then-none
returns-then-none c = λ w v ep em ee en ev er same.
    ap₂ (λ (k : ℕ) (b : Bool). moved w v.left k b None) (sym ep) (sym em) ∙ hand_none w v en (ev ∙ c.if-none.true)

pub returns-then-removed-gt0 : goal.returns-then-removed-gt0
returns-then-removed-gt0 c = λ w v ep em ee en ev er same.
    hand_gone w v en (ev ∙ c.if-none.false) (lt-ltb 0 (gone w v) (omega (arith, c.if-removed-gt0.true, er)))

pub returns : goal.returns
returns c = λ w v ep em ee en ev er same.
    let at = c.args.at in
    let none : gone w v ≤ 0 = omega (arith, c.if-removed-gt0.false, er) in
    ap (λ (t : List ℕ). moved w t at.place at.mark at.end) (same (omega (arith, c.if-removed-gt0.false)))
    ∙ ap₂ (λ (k : ℕ) (b : Bool). moved w (rows_of w) k b at.end) (sym ep) (sym em)
    ∙ ap (moved w (rows_of w) w.place w.mark) (sym ee)
    ∙ hand_same w v en (ev ∙ c.if-none.false) (le-ltb 0 (gone w v) none)
