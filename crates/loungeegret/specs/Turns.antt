-- Runs in turns on the same lent words (W-211).
use Rattle.std.specs.Prelude.{◌≡◌, List, [], ◌∷◌, ℕ, ◌+◌}
use Rattle.filter.specs.declared.cycle.Ran.{Ran}
use Rattle.filter.specs.Calls.{run_call}
use Rattle.filter.specs.Turns.{both, total, run_answer}
use Rattle.demands.specs.Sequence.{Call, running}
use Rattle.demands.specs.Turns.{budgets_of, NoneByHand}
use Rattle.loungeegret.specs.Words.{loaded}
use Rattle.loungeegret.specs.Sequence.{words_handed, words_all}

-- runs before, which handed back r together and left the words s, then one on these words for each budget of the list: what all hand back together
unfoldable pub turns_on : List ℕ → Ran → List ℕ → Ran
turns_on s r [] = r
turns_on s r (b ∷ bs) = turns_on (words_handed s (running b)) (both r (run_call (loaded s) b)) bs

-- of words s that suffice for a state, whatever state they say
pub record TurnsAdd (s : List ℕ) : Type 0 where
  -- where no call by hand stands between, a list of calls leaves the words that one run with the sum of the budgets leaves
  pub words : (cs : List Call) → NoneByHand cs → words_all s cs ≡ words_handed s (running (budgets_of cs))
  -- a run with a and then one for each budget of a list hand back together what a run with the sum does: steps and removals add up
  pub counts : (a : ℕ) (bs : List ℕ) → turns_on (words_handed s (running a)) (run_call (loaded s) a) bs ≡ run_call (loaded s) (a + total bs)
  -- a budget of 0 changes no word
  pub nothing : words_handed s (running 0) ≡ s
  -- 7 each time: every turn answers as the first
  pub checks : (cs : List Call) → NoneByHand cs → (b : ℕ) → (run_call (loaded (words_all s cs)) b).answer ≡ run_answer (loaded s)
