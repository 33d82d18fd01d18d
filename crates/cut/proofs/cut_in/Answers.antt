-- `cut::cut_in` meets its contract: a return for each check, one for an end that is none, and one for the verdict.
use mathlib.Core.Path.{◌≡◌, refl, sym, ap, ◌∙◌}
use mathlib.Core.Bool.{true, false}
use Rattle.circuit.specs.State.{bad}
use Rattle.circuit.proofs.StateLaws.{good, stray_row_lem}
use Rattle.roads.specs.Cut.{is_two_way, are_roads}
use Rattle.filter.specs.inner.Steps.{state_at}
use Rattle.cut.specs.inner.Parts.{cut_as}
use Rattle.cut.proofs.CallLaws.{cut_ended, cut_bad, cut_one_way, cut_stray, cut_good, cut_kept}
use Rattle.cut.proofs.cut_in.Goals.{Else-is_bad_state, Else-not-are_roads, Else-not-is_two_way}
use Rattle.cut.proofs.cut_in.Goals as goal

not_bad : (c : Else-is_bad_state) → let a = c.args in bad (state_at a.n a.rows.now a.limit a.at) ≡ false
not_bad c = let at = c.args.at in sym (c.is_bad_state.ensures at.mark at.end) ∙ c.if-is_bad_state.false

is_two : (c : Else-not-is_two_way) → let a = c.args in is_two_way a.n a.rows.now ≡ true
is_two c = sym c.is_two_way.ensures ∙ c.if-not-is_two_way.false

stand : (c : Else-not-are_roads) → let a = c.args in are_roads a.rows.now a.must.now ≡ true
stand c = sym c.are_roads.ensures ∙ c.if-not-are_roads.false

pub returns-then-is_bad_state : goal.returns-then-is_bad_state
returns-then-is_bad_state c =
    let a = c.args in
    let w = state_at a.n a.rows.now a.limit a.at in
    let told = c.is_bad_state.ensures a.at.mark a.at.end in
    (ap (cut_as a.n a.limit a.rows.now a.must.now) c.unmoved.ensures ∙ cut_bad w a.must.now (sym told ∙ c.if-is_bad_state.true), λ _. refl)

pub is_two_way-requires : goal.is_two_way-requires
is_two_way-requires c =
    let a = c.args in
    let g = good (state_at a.n a.rows.now a.limit a.at) (not_bad c) in
    (g.most, stray_row_lem a.n a.rows.now g.most g.table)

pub returns-then-not-is_two_way : goal.returns-then-not-is_two_way
returns-then-not-is_two_way c =
    let a = c.args in
    let w = state_at a.n a.rows.now a.limit a.at in (
      ap (cut_as a.n a.limit a.rows.now a.must.now) c.unmoved-then-not-is_two_way.ensures
          ∙ cut_one_way w a.must.now (not_bad (goal.at.returns-then-not-is_two_way c).Else-is_bad_state) (sym c.is_two_way.ensures ∙ c.if-not-is_two_way.true),
      λ _. refl,
    )

pub returns-then-not-are_roads : goal.returns-then-not-are_roads
returns-then-not-are_roads c =
    let a = c.args in
    let w = state_at a.n a.rows.now a.limit a.at in
    let here = goal.at.returns-then-not-are_roads c in (
      ap (cut_as a.n a.limit a.rows.now a.must.now) c.unmoved-then-not-are_roads.ensures
          ∙ cut_stray w a.must.now (not_bad here.Else-is_bad_state) (is_two here.Else-not-is_two_way) (sym c.are_roads.ensures ∙ c.if-not-are_roads.true),
      λ _. refl,
    )

pub returns-then-is_none : goal.returns-then-is_none
returns-then-is_none c =
    let a = c.args in
    let w = state_at a.n a.rows.now a.limit a.at in
    let here = goal.at.returns-then-is_none c in (
      ap (cut_as a.n a.limit a.rows.now a.must.now) c.unmoved-then-is_none.ensures
          ∙ cut_ended w a.must.now _ (sym c.is_none.ensures ∙ c.if-is_none.true)
          ∙ cut_good w a.must.now (not_bad here.Else-is_bad_state) (is_two here.Else-not-is_two_way) (stand here.Else-not-are_roads),
      λ _. refl,
    )

pub cut_by_hand-requires : goal.cut_by_hand-requires
cut_by_hand-requires c =
    let a = c.args in
    let here = goal.at.cut_by_hand-requires c in
    (good (state_at a.n a.rows.now a.limit a.at) (not_bad here.Else-is_bad_state), is_two here.Else-not-is_two_way, stand here.Else-not-are_roads, sym c.is_none.ensures ∙ c.if-is_none.false)

pub returns : goal.returns
returns c =
    let a = c.args in
    let w = state_at a.n a.rows.now a.limit a.at in
    let here = goal.at.returns c in
    let is = c.cut_by_hand.ensures ∙ cut_good w a.must.now (not_bad here.Else-is_bad_state) (is_two here.Else-not-is_two_way) (stand here.Else-not-are_roads) in
    (is, cut_kept w a.must.now c.told-rows _ is)
