-- How runs end: the ceiling on their steps (W-206).
use Rattle.std.specs.Prelude.{◌≡◌, ◌⊎◌, ℕ, ◌+◌, ◌*◌, ◌≤◌}
use Rattle.circuit.specs.declared.state.Work.{Work}
use Rattle.circuit.specs.Card.{ending}
use Rattle.filter.specs.Calls.{run_call}

-- the end is stable or none
abbrev pub Ended : Work → Type 0
Ended w = (w.end ≡ ending "stable") ⊎ (w.end ≡ ending "none")

-- the ceiling for n stations and so many legs: the n + 2 places of the cycle, once for each leg and once more
abbrev pub ceiling : ℕ → ℕ → ℕ
ceiling n legs = (n + 2) * (legs + 1)

-- the program's budget
abbrev pub full_budget : ℕ
full_budget = 300000

-- no run from w takes more than k steps, and with a budget of at least k its end is stable or none
pub record EndsWithin (w : Work) (k : ℕ) : Type 0 where
  pub steps : (budget : ℕ) → (run_call w budget).steps ≤ k
  pub ended : (budget : ℕ) → k ≤ budget → Ended (run_call w budget).work
