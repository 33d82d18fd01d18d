-- Runs in turns in a sequence of calls (W-211).
use Rattle.std.specs.Prelude.{◌≡◌, Bool, true, false, List, [], ◌∷◌, ℕ, ◌+◌}
use Rattle.bitset.specs.Upto.{Each}
use Rattle.circuit.specs.declared.state.Work.{Work}
use Rattle.filter.specs.Calls.{run_call}
use Rattle.demands.specs.Sequence.{Call, calling, running, cutting, asking, after_all}

-- a call by hand: a sweep, a chain step, a pass or a cut step
unfoldable pub is_by_hand : Call → Bool
is_by_hand (calling r) = true
is_by_hand (running budget) = false
is_by_hand (cutting must) = true
is_by_hand (asking q) = false

-- the budget that a call gives to runs
unfoldable pub budget_of : Call → ℕ
budget_of (calling r) = 0
budget_of (running budget) = budget
budget_of (cutting must) = 0
budget_of (asking q) = 0

-- the sum of the budgets of a list of calls
unfoldable pub budgets_of : List Call → ℕ
budgets_of [] = 0
budgets_of (c ∷ cs) = budget_of c + budgets_of cs

-- no call by hand is in the list: runs, and between them queries
abbrev pub NoneByHand : List Call → Type 0
NoneByHand cs = Each (λ (c : Call). is_by_hand c ≡ false) cs

-- of any work state: where no call by hand stands between, the state after a list of calls is that of one run with the sum of the budgets
abbrev pub OneRun : Work → List Call → Type 0
OneRun w cs = NoneByHand cs → after_all w cs ≡ (run_call w (budgets_of cs)).work
