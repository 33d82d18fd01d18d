-- Runs in turns: they add up (W-211).
use Rattle.std.specs.Prelude.{◌≡◌, cond, List, [], ◌∷◌, ℕ, ◌+◌}
use Rattle.circuit.specs.declared.card.Answer.{Answer}
use Rattle.circuit.specs.declared.state.Work.{Work}
use Rattle.circuit.specs.Card.{card}
use Rattle.circuit.specs.State.{bad}
use Rattle.filter.specs.declared.cycle.Ran.{Ran}
use Rattle.filter.specs.Calls.{idle, run_call}

-- what two runs hand back together: answer and state of the second, steps and removals added
abbrev pub both : Ran → Ran → Ran
both r s = record { answer = s.answer; work = s.work; steps = r.steps + s.steps; removed = r.removed + s.removed }

-- a run that handed back r, then one for each budget of the list, each from the state that the one before handed back
unfoldable pub turns : Ran → List ℕ → Ran
turns r [] = r
turns r (b ∷ bs) = turns (both r (run_call r.work b)) bs

-- the sum of the budgets
abbrev pub total : List ℕ → ℕ
total [] = 0
total (b ∷ bs) = b + total bs

-- what a run answers, whatever its budget
abbrev pub run_answer : Work → Answer
run_answer w = cond (bad w) (card 7) (card 0)

-- Of any work state, good or bad. The budgets are any numbers: where a sum is at most 4,294,967,295, a call can be made with it.
pub record RunsAdd (w : Work) : Type 0 where
  -- a run with a and then one with b hand back together what a run with a + b does
  pub add : (a b : ℕ) → both (run_call w a) (run_call (run_call w a).work b) ≡ run_call w (a + b)
  -- and so does a run with a and then one for each budget of a list
  pub list : (a : ℕ) (bs : List ℕ) → turns (run_call w a) bs ≡ run_call w (a + total bs)
  -- a budget of 0 changes nothing
  pub nothing : run_call w 0 ≡ idle (run_answer w) w
  -- 7 each time: the second run answers as the first
  pub checks : (a b : ℕ) → ((run_call w a).answer ≡ run_answer w) × ((run_call (run_call w a).work b).answer ≡ run_answer w)
