-- `filter::run_in` meets its contract.
use mathlib.Core.Path.{◌≡◌, refl, sym, ap, ◌∙◌}
use mathlib.Core.Bool.{false}
use Prim.Native.Nat.{ℕ}
use Rattle.circuit.specs.State.{bad}
use Rattle.circuit.proofs.StateLaws.{good}
use Rattle.filter.specs.Calls.{run_from}
use Rattle.filter.specs.inner.Steps.{state_at, ran_as}
use Rattle.filter.proofs.RemovalLaws.{run_kept}
use Rattle.filter.proofs.RunLaws.{run_bad, run_good, run_shut}
use Rattle.filter.proofs.cycle.run_in.Goals.{Else-is_bad_state}
use Rattle.filter.proofs.cycle.run_in.Goals as goal

not_bad : (c : Else-is_bad_state) → let a = c.args in bad (state_at a.n a.rows.now a.limit a.from) ≡ false
not_bad c = let from = c.args.from in sym (c.is_bad_state.ensures from.mark from.end) ∙ c.if-is_bad_state.false

pub returns-then-is_bad_state : goal.returns-then-is_bad_state
returns-then-is_bad_state c =
    let a = c.args in
    let told = c.is_bad_state.ensures a.from.mark a.from.end in (
      ap (ran_as a.n a.limit a.rows.now) c.unmoved.ensures ∙ sym (run_bad (state_at a.n a.rows.now a.limit a.from) a.budget (sym told ∙ c.if-is_bad_state.true)),
      λ _. refl,
    )

-- no step is due
pub returns-then-budget-eq0 : goal.returns-then-budget-eq0
unfolding run_from
returns-then-budget-eq0 c =
    let a = c.args in
    let w = state_at a.n a.rows.now a.limit a.from in (
      ap (ran_as a.n a.limit a.rows.now) c.unmoved-then-budget-eq0.ensures
          ∙ sym (run_good w a.budget (not_bad (goal.at.returns-then-budget-eq0 c).Else-is_bad_state) ∙ ap (λ (b : ℕ). run_from b w) c.if-budget-eq0.true),
      λ _. refl,
    )

pub run_from-requires : goal.run_from-requires
run_from-requires c =
    let a = c.args in
    good (state_at a.n a.rows.now a.limit a.from) (not_bad (goal.at.run_from-requires c).Else-is_bad_state)

pub returns-then-is_open : goal.returns-then-is_open
returns-then-is_open c =
    let a = c.args in
    let w = state_at a.n a.rows.now a.limit a.from in
    let is = c.run_from.ensures ∙ sym (run_good w a.budget (not_bad (goal.at.returns-then-is_open c).Else-is_bad_state)) in
    (is, run_kept w c.told-rows a.budget _ is)

pub returns : goal.returns
returns c =
    let a = c.args in
    let w = state_at a.n a.rows.now a.limit a.from in
    let closed = run_shut a.budget w (sym c.is_open.ensures ∙ c.if-is_open.false) in
    (ap (ran_as a.n a.limit a.rows.now) c.unmoved-2.ensures ∙ sym (run_good w a.budget (not_bad (goal.at.returns c).Else-is_bad_state) ∙ closed), λ _. refl)
