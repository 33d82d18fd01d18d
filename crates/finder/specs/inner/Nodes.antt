-- Nodes, as the functions of the search promise them to each other. The rows of a node are lent; n and the limit are those of the given state.
use Rattle.std.specs.Prelude.{◌≡◌, Bool, true, false, List, ℕ, length}
use Rattle.circuit.specs.declared.state.Work.{Work}
use Rattle.circuit.specs.Card.{ending}
use Rattle.circuit.specs.State.{is_none, rows_of, state, Good}
use Rattle.finder.specs.Search.{settled}

-- the node with these rows, and a node's state after a run that leaves these rows and ends stable
abbrev pub node_at : ℕ → ℕ → List ℕ → Work
node_at n limit rows = state n rows limit 0 false (ending "open")

abbrev pub stable_at : ℕ → ℕ → List ℕ → Work
stable_at n limit rows = state n rows limit 0 false (ending "stable")

-- the state of a node that is entered: good, place 0, mark clear, end open
pub record Begun (w : Work) : Type 0 where
  pub good : Good w
  pub long : length (rows_of w) ≡ 64
  pub place : w.place ≡ 0
  pub end : w.end ≡ ending "open"

-- where the node is said to be known, its run leaves its table
abbrev pub Known : Bool → Work → Type 0
Known known w = known ≡ true → settled w ≡ stable_at w.n w.limit (rows_of w)

-- the node's run: whether its end is none, and otherwise the rows that it leaves
pub record Settles (w : Work) (none : Bool) (rows : List ℕ) : Type 0 where
  pub ends : none ≡ is_none (settled w).end
  pub leaves : none ≡ false → settled w ≡ stable_at w.n w.limit rows
