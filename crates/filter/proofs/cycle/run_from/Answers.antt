use mathlib.Core.Path.{◌≡◌, refl, sym, ap, ap₂, ◌∙◌, subst}
use mathlib.Core.List.{List}
use Prim.Native.Nat.{ℕ, ◌-◌, ◌≤◌}
use native.Mathlib.Omega.{arith}
use Rattle.circuit.specs.declared.card.Answer.TheVariants.{Taken}
use Rattle.circuit.specs.declared.verdict.Verdict.{Verdict}
use Rattle.circuit.specs.Legs.{legs, Subtable}
use Rattle.circuit.specs.State.{rows_of}
use Rattle.circuit.proofs.LegsLaws.{legs_le}
use Rattle.circuit.proofs.StateLaws.{stray_row_lem}
use Rattle.filter.specs.Rule.{rule_at}
use Rattle.filter.specs.Calls.{verdict, gone, run_from}
use Rattle.filter.specs.inner.Steps.{state_at, ran_as}
use Rattle.filter.proofs.CallLaws.{place_sound}
use Rattle.filter.proofs.IdleLaws.{idle_none}
use Rattle.filter.proofs.RemovalLaws.{run_from_kept}
use Rattle.filter.proofs.StepLaws.{step_is, run_start, run_fewer, run_turn, run_spent, run_ended}
use Rattle.filter.proofs.cycle.run_from.Goals.{After-take_at-taken, Left-loop-steps, else-loop-steps-test, then-loop-steps-test+else-is_open}
use Rattle.filter.proofs.cycle.run_from.Goals as goal

pub of-net-requires : goal.of-net-requires
of-net-requires c = let g = c.requires in (g.most, g.table)

pub legs_of-start-requires : goal.legs_of-start-requires
legs_of-start-requires c = let g = c.requires in (g.most, stray_row_lem _ _ g.most g.table)

pub loop-steps-init : goal.loop-steps-init
loop-steps-init c =
    let g = c.requires in (
      omega arith,
      record {
        good = g;
        run = rw c.of-net.ensures.1 (run_start (state_at c.args.n c.args.rows.now c.args.limit c.args.from) g);
        stations = c.of-net.ensures.0;
        all = c.legs_of-start.ensures.0;
        left = rw c.of-net.ensures.1 c.legs_of-start.ensures.0;
        known = idle_none _ _ _;
      },
    )

pub take_at-taken-requires : goal.take_at-taken-requires
take_at-taken-requires c =
    let i = c.loop-steps.invariant.1 in
    rw i.stations (i.good.two, i.run.good.place, i.known)

pub idle_after-idle-requires : goal.idle_after-idle-requires
idle_after-idle-requires c = let i = c.loop-steps.invariant.1 in omega (arith, i.good.most, i.run.good.place)

-- the verdict of the rule at the place, as it was taken
says_at : (c : After-take_at-taken) → let a = c.args in
    let w = state_at a.n c.loop-steps.net.rows a.limit c.loop-steps.at in verdict w (rule_at w.place) ≡ record { none = c.take_at-taken.result.none; left = c.take_at-taken.new.net.rows }
says_at c = let i = c.loop-steps.invariant.1 in let L = rw i.stations at c.take_at-taken.ensures.1 in L.verdict

sub : (c : After-take_at-taken) → Subtable c.take_at-taken.new.net.rows c.loop-steps.net.rows
sub c = let a = c.args in
    let w = state_at a.n c.loop-steps.net.rows a.limit c.loop-steps.at in
    subst (λ (x : Verdict). Subtable x.left (rows_of w)) (says_at c) (place_sound w c.loop-steps.invariant.1.run.good).sub

pub legs_after-left-requires : goal.legs_after-left-requires
legs_after-left-requires c =
    let i = c.loop-steps.invariant.1 in
    let T = c.take_at-taken in
    let net = T.new.net in
    let n : net.n ≡ c.args.n = T.ensures.0 ∙ i.stations in
    (i.good.most, rw n at (stray_row_lem _ _ net.most net.columned.clean), λ e. i.left ∙ ap (legs c.args.n) (sym (T.ensures.1.same e)))

pub overflow_sub-standing : goal.overflow_sub-standing
overflow_sub-standing c =
    omega (arith, c.legs_after-left.ensures, c.loop-steps.invariant.1.left, legs_le c.args.n _ _ (sub (goal.at.overflow_sub-standing c).After-take_at-taken))

pub advance-at-requires : goal.advance-at-requires
advance-at-requires c = let i = c.loop-steps.invariant.1 in (i.good.most, i.run.good.place)

pub loop-steps-preserved : goal.loop-steps-preserved
unfolding gone
loop-steps-preserved c =
    let a = c.args in
    let i = c.loop-steps.invariant.1 in
    let T = c.take_at-taken in
    let w = state_at a.n c.loop-steps.net.rows a.limit c.loop-steps.at in
    let x : Verdict = record { none = T.result.none; left = T.new.net.rows } in
    let says : verdict w (rule_at w.place) ≡ x = says_at (goal.at.loop-steps-preserved c).After-take_at-taken in
    let r = c.loop-steps.standing - c.legs_after-left.result in
    let count : r ≡ legs a.n c.loop-steps.net.rows - legs a.n x.left = ap₂ (λ (p q : ℕ). p - q) i.left c.legs_after-left.ensures in (
      omega arith,
      record {
        good = i.good;
        run = run_turn i.run i.good (sym c.is_open.ensures ∙ c.if-is_open.true) _
            (step_is w x (state_at a.n x.left a.limit c.advance-at.result) r (sym says) count (c.advance-at.ensures w x refl refl refl refl count));
        stations = T.ensures.0 ∙ i.stations;
        all = i.all;
        left = c.legs_after-left.ensures;
        known = c.idle_after-idle.ensures a.n a.limit c.loop-steps.net.rows _ i.known says T.ensures.1.same;
      },
    )

pub overflow_sub-removed : goal.overflow_sub-removed
overflow_sub-removed c = let i = c.loop-steps.invariant.1 in omega (arith, i.all, i.left, run_fewer i.run i.good)

-- what the run has come to
ran : (c : Left-loop-steps) → let a = c.args in
    ran_as a.n a.limit c.loop-steps.net.rows (record { answer = Taken; at = c.loop-steps.at; steps = c.loop-steps.steps; removed = c.legs_of-start.result - c.loop-steps.standing })
    ≡ run_from a.budget (state_at a.n a.rows.now a.limit a.from)
ran c =
    let a = c.args in
    let i = c.loop-steps.invariant.1 in
    let budget = c.args.budget in
    let k : c.loop-steps.steps ≤ c.args.budget = c.loop-steps.invariant.0 in
    ap (λ (k : ℕ). record { answer = Taken; work = state_at a.n c.loop-steps.net.rows a.limit c.loop-steps.at; steps = c.loop-steps.steps; removed = k }) (ap₂ (λ (p q : ℕ). p - q) i.all i.left)
    ∙ elim c.loop-steps-test.branch [
      | else-loop-steps-test w ↦ run_spent i.run i.good budget (omega (arith, w.loop-steps-test.false, k))
      | then-loop-steps-test+else-is_open w ↦ run_ended i.run i.good budget k (sym w.is_open.ensures ∙ w.if-is_open.false)
    ]

pub returns-then-removed-ne0 : goal.returns-then-removed-ne0
returns-then-removed-ne0 c = ran (goal.at.returns-then-removed-ne0 c).Left-loop-steps

-- no leg went, so the rows that were lent are those of the network
pub returns-else-removed-ne0 : goal.returns-else-removed-ne0
returns-else-removed-ne0 c =
    let a = c.args in
    let L = ran (goal.at.returns-else-removed-ne0 c).Left-loop-steps in
    ap (λ (t : List ℕ). ran_as a.n a.limit t (record { answer = Taken; at = c.loop-steps.at; steps = c.loop-steps.steps; removed = c.legs_of-start.result - c.loop-steps.standing }))
    (sym (run_from_kept (state_at a.n a.rows.now a.limit a.from) c.told-rows c.requires a.budget _ L c.if-removed-ne0.false))
    ∙ L
