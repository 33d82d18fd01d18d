-- Parts of the search within a node budget, as the functions of the search hand them on.
use Rattle.std.specs.Prelude.{Bool, true, false, List, ℕ, ◌-◌}
use Rattle.finder.specs.declared.outcome.Outcome.{Outcome}
use Rattle.finder.specs.declared.outcome.Outcome.TheVariants.{Refused, Found, NoRound, UsedUp}
use Rattle.finder.specs.Search.{Search}
use Rattle.finder.specs.Call.{outcome_of, nodes_of, list_after}

-- the search goes on to the next part
abbrev pub is_no_round : Outcome → Bool
is_no_round Refused = false
is_no_round Found = false
is_no_round NoRound = true
is_no_round UsedUp = false

-- how a part comes out, what is left of the budget, and what is then in the list
pub record Within : Type 0 where
  pub outcome : Outcome
  pub left : ℕ
  pub list : List ℕ

-- the part s within a budget of b nodes, where the list held old
abbrev pub within : ℕ → Search → List ℕ → Within
within b s old = record { outcome = outcome_of b s; left = b - nodes_of b s; list = list_after b s old }
