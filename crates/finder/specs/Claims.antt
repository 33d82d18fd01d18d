-- What W-210 says of the answers.
use Rattle.std.specs.Prelude.{◌≡◌, true, List, ℕ, ◌≤◌, ◌<◌}
use Rattle.circuit.specs.declared.state.Work.{Work}
use Rattle.circuit.specs.State.{rows_of}
use Rattle.circuit.specs.Round.{RoundOf, All, NoneIn}
use Rattle.circuit.specs.Check.{choice_of, check_call}
use Rattle.finder.specs.declared.outcome.Outcome.TheVariants.{Found, NoRound, UsedUp}
use Rattle.finder.specs.declared.outcome.Sought.{Sought}
use Rattle.finder.specs.Search.{whole}
use Rattle.finder.specs.Call.{first_call, first_list}
use Rattle.finder.specs.First.{First}

-- the nodes that the search takes: the least budget that is enough
abbrev pub enough : Work → ℕ
enough w = (whole w).nodes

-- of what a call that is not refused hands back, and of the list that it leaves, with a budget of b nodes
pub record Finds (w : Work) (b : ℕ) (r : Sought) (list : List ℕ) : Type 0 where
  -- found: the list names the first round of the table, and passes the list check on the given state
  pub found : r.outcome ≡ Found → First All w.n (rows_of w) (choice_of list)
  pub passes : r.outcome ≡ Found → (check_call w list).yes ≡ true
  -- and where the table has a round and the budget is enough, one is found
  pub found_back : (h : ℕ → ℕ) → RoundOf w.n (rows_of w) h → enough w ≤ b → r.outcome ≡ Found
  -- no round: exactly when the table has none and no node is left
  pub none : r.outcome ≡ NoRound → NoneIn All w.n (rows_of w) × (enough w ≤ b)
  pub none_back : NoneIn All w.n (rows_of w) → enough w ≤ b → r.outcome ≡ NoRound
  -- used up: exactly when another node is due, and the count then is the budget
  pub used : r.outcome ≡ UsedUp → (b < enough w) × (r.nodes ≡ b)
  pub used_back : b < enough w → r.outcome ≡ UsedUp
  -- otherwise the count is the number of nodes that the search takes
  pub count : enough w ≤ b → r.nodes ≡ enough w
  -- there is a node to enter, so a budget of 0 is used up
  pub some : 0 < enough w
  -- each station is decided at a level of its own
  pub deep : r.outcome ≡ Found → w.n < enough w

-- of any call, refused or not
pub record NodeBudgets (w : Work) (b : ℕ) (old : List ℕ) : Type 0 where
  pub most : (first_call w b old).nodes ≤ b
  -- the list keeps its contents where no round is found
  pub keeps : ((first_call w b old).outcome ≡ Found → ⊥) → first_list w b old ≡ old
  -- a larger budget changes neither a found list nor a no-round, nor the count
  pub larger : (c : ℕ) → b ≤ c → ((first_call w b old).outcome ≡ UsedUp → ⊥) → (first_call w c old ≡ first_call w b old) × (first_list w c old ≡ first_list w b old)
