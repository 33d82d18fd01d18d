-- Runs add up (W-211). Assumes nothing.
use mathlib.Core.Path.{◌≡◌, refl, sym, ap, ◌∙◌}
use mathlib.Core.Logic.{⊎_elim}
use mathlib.Core.Bool.{Bool, true, false, cond}
use mathlib.Core.List.{List, [], ◌∷◌}
use Prim.Native.Nat.{ℕ, ◌+◌}
use native.Mathlib.Nat.{add-zero, add_assoc}
use Rattle.bitset.proofs.BoolLaws.{cases}
use Rattle.circuit.specs.declared.card.Answer.{Answer}
use Rattle.circuit.specs.declared.card.Answer.TheVariants.{Taken, BadWork}
use Rattle.circuit.specs.declared.state.Work.{Work}
use Rattle.circuit.specs.Round.{All}
use Rattle.circuit.specs.State.{bad}
use Rattle.circuit.proofs.StateLaws.{good, not_bad}
use Rattle.filter.specs.declared.cycle.Ran.{Ran}
use Rattle.filter.specs.Calls.{idle, run_from, run_call}
use Rattle.filter.specs.Turns.{both, turns, total, run_answer, RunsAdd}
use Rattle.filter.proofs.AfterLaws.{run_call_cases}
use Rattle.filter.proofs.CallLaws.{run_from_leads}
use Rattle.filter.proofs.RunLaws.{run_add, run_good, run_bad, run_taken}

-- the state that a run hands back is as bad or good as the one that it was given
pub run_stays : (w : Work) (a : ℕ) → bad (run_call w a).work ≡ bad w
run_stays w a =
    run_call_cases (λ (r : Ran). bad r.work ≡ bad w) w a (λ _. refl)
    (λ e. let g = good w e in not_bad (run_from a w).work ((run_from_leads All a w g).keeps g) ∙ sym e)

sum_bad : (w : Work) (a b : ℕ) → bad w ≡ true → both (run_call w a) (run_call (run_call w a).work b) ≡ run_call w (a + b)
sum_bad w a b e =
    ap (λ (r : Ran). both r (run_call r.work b)) (run_bad w a e) ∙ ap (both (idle BadWork w)) (run_bad w b e) ∙ sym (run_bad w (a + b) e)

sum_good : (w : Work) (a b : ℕ) → bad w ≡ false → both (run_call w a) (run_call (run_call w a).work b) ≡ run_call w (a + b)
sum_good w a b e =
    ap (both (run_call w a)) (run_good (run_call w a).work b (run_stays w a ∙ e))
    ∙ ap (λ (r : Ran). both r (run_from b r.work)) (run_good w a e)
    ∙ sym (run_add a b w) ∙ sym (run_good w (a + b) e)

pub run_sum : (w : Work) (a b : ℕ) → both (run_call w a) (run_call (run_call w a).work b) ≡ run_call w (a + b)
run_sum w a b = ⊎_elim (sum_bad w a b) (sum_good w a b) (cases (bad w))

pub turns_sum : (w : Work) (a : ℕ) (bs : List ℕ) → turns (run_call w a) bs ≡ run_call w (a + total bs)
unfolding turns
turns_sum w a [] = ap (run_call w) (sym (add-zero a))
turns_sum w a (b ∷ bs) = ap (λ (r : Ran). turns r bs) (run_sum w a b) ∙ turns_sum w (a + b) bs ∙ ap (run_call w) (add_assoc a b (total bs))

-- the answer by whether the state is bad
answer_of : (w : Work) {b : Bool} → bad w ≡ b → cond b BadWork Taken ≡ run_answer w
answer_of w e = ap (λ (b : Bool). cond b BadWork Taken) (sym e)

run_checks : (w : Work) (a : ℕ) → (run_call w a).answer ≡ run_answer w
run_checks w a = run_call_cases (λ (r : Ran). r.answer ≡ run_answer w) w a (answer_of w) (λ e. run_taken a w ∙ answer_of w e)

pub run_nothing : (w : Work) → run_call w 0 ≡ idle (run_answer w) w
unfolding run_from
run_nothing w =
    run_call_cases (λ (r : Ran). r ≡ idle (run_answer w) w) w 0 (λ e. ap (λ (a : Answer). idle a w) (answer_of w e))
    (λ e. ap (λ (a : Answer). idle a w) (answer_of w e))

pub runs_add : (w : Work) → RunsAdd w
runs_add w =
    record {
      add = run_sum w;
      list = turns_sum w;
      nothing = run_nothing w;
      checks = λ a b. (run_checks w a, run_checks (run_call w a).work b ∙ answer_of w (sym (run_stays w a)));
    }
