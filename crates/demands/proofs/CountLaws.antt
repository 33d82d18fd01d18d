-- The steps of a run. Assumes nothing.
use mathlib.Core.Path.{◌≡◌, refl, sym, ap, ◌∙◌}
use mathlib.Core.Bool.{false}
use Prim.Native.Nat.{ℕ, zero, suc, ◌≤◌}
use native.Mathlib.Omega.{arith}
use Rattle.bitset.proofs.BoolLaws.{clash}
use Rattle.circuit.specs.declared.card.End.TheVariants.{Open}
use Rattle.circuit.specs.declared.state.Work.{Work}
use Rattle.circuit.specs.State.{is_open, bad}
use Rattle.filter.specs.declared.cycle.Ran.{Ran}
use Rattle.filter.specs.Calls.{step, run_from, run_call}
use Rattle.filter.proofs.AfterLaws.{run_from_cases, run_call_cases}
use Rattle.filter.proofs.RunLaws.{run_steps, run_good}

pub steps_most : (w : Work) (budget : ℕ) → (run_call w budget).steps ≤ budget
steps_most w budget = run_call_cases (λ (r : Ran). r.steps ≤ budget) w budget (λ _. omega arith) (λ _. run_steps budget w)

from_spent : (b : ℕ) (w : Work) → (run_from b w).work.end ≡ Open → (run_from b w).steps ≡ b
unfolding run_from
from_spent zero w = λ e. refl
from_spent (suc b) w =
    run_from_cases (λ (r : Ran). r.work.end ≡ Open → r.steps ≡ suc b) b w
    (λ _ e. ap suc (from_spent b (step w).work e)) (λ shut e. clash (sym (ap is_open e) ∙ shut))

pub open_spent : (w : Work) (budget : ℕ) → bad w ≡ false → (run_call w budget).work.end ≡ Open → (run_call w budget).steps ≡ budget
open_spent w budget e o =
    let is = run_good w budget e in
    ap (λ (r : Ran). r.steps) is ∙ from_spent budget w (sym (ap (λ (r : Ran). r.work.end) is) ∙ o)
