-- The search for the first round, without a node budget: a tree of work states, its nodes in the order in which they are entered (W-210).
-- Stations count from 0 here.
use Rattle.std.specs.Prelude.{Bool, true, false, cond, List, [], ℕ, zero, suc, ◌+◌, ◌-◌, ◌^◌, set}
use Rattle.std.specs.Int.Count.{count_trailing_zeros}
use Rattle.bitset.specs.Upto.{row}
use Rattle.circuit.specs.declared.state.Work.{Work}
use Rattle.circuit.specs.Card.{ending}
use Rattle.circuit.specs.Legs.{leg}
use Rattle.circuit.specs.State.{is_none, rows_of, moved}
use Rattle.circuit.specs.Check.{list_of, check_call}
use Rattle.filter.specs.Calls.{run_call}
use Rattle.filter.specs.Ends.{full_budget}

-- what a part of the tree gives: whether a round is found there, its list, and how many nodes are entered up to it, or in all
pub record Search : Type 0 where
  pub found : Bool
  pub list : List ℕ
  pub nodes : ℕ

abbrev pub nothing : Search
nothing = record { found = false; list = []; nodes = 0 }

-- one node, and then what is below it
abbrev pub entered : Search → Search
entered s = record { found = s.found; list = s.list; nodes = suc s.nodes }

-- one part of the tree, and where it has no round the next
abbrev pub and_then : Search → Search → Search
and_then r s = cond r.found r (record { found = s.found; list = s.list; nodes = r.nodes + s.nodes })

-- the children for the numbers k, k + 1, .., rising: of m numbers those that pass p
unfoldable pub children : (ℕ → Search) → (ℕ → Bool) → ℕ → ℕ → Search
children f p zero k = nothing
children f p (suc m) k =
    let rest = children f p m (suc k) in
    let both = and_then (f k) rest in
    cond (p k) both rest

-- a node: the given state with a table, at place 0, with the mark clear and the end open
abbrev pub node : Work → List ℕ → Work
node w t = moved w t 0 false (ending "open")

-- a node's state after its run
unfoldable pub settled : Work → Work
settled w = (run_call w full_budget).work

-- station d decided for station j: only that leg is left in its row
unfoldable pub decided : Work → ℕ → ℕ → Work
decided v d j = node v (set (rows_of v) d (2 ^ j))

-- the list of a table with one leg in each row: the numbers of the next stations
unfoldable pub list_in : ℕ → List ℕ → List ℕ
list_in n t = list_of n (λ i. count_trailing_zeros 64 (row t i))

-- a node with all stations decided: its list, where that passes the list check
unfoldable pub leaf : Work → Search
leaf v =
    let list = list_in v.n (rows_of v) in
    let yes : Search = record { found = true; list = list; nodes = 0 } in
    cond (check_call v list).yes yes nothing

-- the node w, of whose stations the last u are undecided: the lowest of them is w.n - u
unfoldable pub search_from : ℕ → Work → Search
search_from zero w =
    let v = settled w in
    let here = leaf v in
    entered (cond (is_none v.end) nothing here)
search_from (suc u) w =
    let v = settled w in
    let d = w.n - suc u in
    let below = children (λ j. search_from u (decided v d j)) (leg (rows_of v) d) 64 0 in
    entered (cond (is_none v.end) nothing below)

-- the whole search: the given table, no station decided
unfoldable pub whole : Work → Search
whole w = search_from w.n (node w (rows_of w))
