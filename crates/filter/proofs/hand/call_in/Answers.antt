-- `filter::call_in` meets its contract: a return for each check, one for an end that is none, and one for the verdict.
use mathlib.Core.Path.{◌≡◌, refl, sym, ap, ◌∙◌}
use mathlib.Core.Bool.{false}
use Rattle.circuit.specs.State.{bad}
use Rattle.circuit.proofs.StateLaws.{good}
use Rattle.filter.specs.Rule.{stray_seed}
use Rattle.filter.specs.Calls.{verdict}
use Rattle.filter.specs.inner.Steps.{state_at, called_as}
use Rattle.filter.proofs.HandLaws.{hand_ended, call_bad, call_stray, call_good}
use Rattle.filter.proofs.RemovalLaws.{hand_kept}
use Rattle.filter.proofs.hand.call_in.Goals.{Else-has_stray_seed, Else-is_bad_state}
use Rattle.filter.proofs.hand.call_in.Goals as goal

not_bad : (c : Else-is_bad_state) → let a = c.args in bad (state_at a.n a.rows.now a.limit a.at) ≡ false
not_bad c = let at = c.args.at in sym (c.is_bad_state.ensures at.mark at.end) ∙ c.if-is_bad_state.false

not_stray : (c : Else-has_stray_seed) → let a = c.args in stray_seed a.n a.rule ≡ false
not_stray c = sym c.has_stray_seed.ensures ∙ c.if-has_stray_seed.false

pub returns-then-is_bad_state : goal.returns-then-is_bad_state
returns-then-is_bad_state c =
    let a = c.args in
    let w = state_at a.n a.rows.now a.limit a.at in
    (ap (called_as a.n a.limit a.rows.now) c.unmoved.ensures ∙ call_bad w a.rule (sym (c.is_bad_state.ensures a.at.mark a.at.end) ∙ c.if-is_bad_state.true), λ _. refl)

pub returns-then-has_stray_seed : goal.returns-then-has_stray_seed
returns-then-has_stray_seed c =
    let a = c.args in
    let w = state_at a.n a.rows.now a.limit a.at in (
      ap (called_as a.n a.limit a.rows.now) c.unmoved-then-has_stray_seed.ensures
          ∙ call_stray w a.rule (not_bad (goal.at.returns-then-has_stray_seed c).Else-is_bad_state) (sym c.has_stray_seed.ensures ∙ c.if-has_stray_seed.true),
      λ _. refl,
    )

pub returns-then-is_none : goal.returns-then-is_none
returns-then-is_none c =
    let a = c.args in
    let w = state_at a.n a.rows.now a.limit a.at in
    let here = goal.at.returns-then-is_none c in (
      ap (called_as a.n a.limit a.rows.now) c.unmoved-then-is_none.ensures
          ∙ hand_ended w (verdict w a.rule) (sym c.is_none.ensures ∙ c.if-is_none.true) ∙ call_good w a.rule (not_bad here.Else-is_bad_state) (not_stray here.Else-has_stray_seed),
      λ _. refl,
    )

pub by_hand-requires : goal.by_hand-requires
by_hand-requires c =
    let a = c.args in
    let here = goal.at.by_hand-requires c in
    (good (state_at a.n a.rows.now a.limit a.at) (not_bad here.Else-is_bad_state), not_stray here.Else-has_stray_seed, sym c.is_none.ensures ∙ c.if-is_none.false)

pub returns : goal.returns
returns c =
    let a = c.args in
    let w = state_at a.n a.rows.now a.limit a.at in
    let here = goal.at.returns c in
    let is = c.by_hand.ensures ∙ call_good w a.rule (not_bad here.Else-is_bad_state) (not_stray here.Else-has_stray_seed) in
    (is, hand_kept w c.told-rows a.rule _ is)
