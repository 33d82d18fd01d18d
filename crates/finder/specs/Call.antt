-- The call: the search within a node budget, and the refusals (W-210).
use Rattle.std.specs.Prelude.{not, cond, ◌&&◌, List, ℕ, leb, eqb, length}
use Rattle.circuit.specs.declared.card.Answer.{Answer}
use Rattle.circuit.specs.declared.state.Work.{Work}
use Rattle.circuit.specs.Card.{card}
use Rattle.circuit.specs.State.{bad}
use Rattle.finder.specs.declared.outcome.Outcome.{Outcome}
use Rattle.finder.specs.declared.outcome.Outcome.TheVariants.{Refused, Found, NoRound, UsedUp}
use Rattle.finder.specs.declared.outcome.Sought.{Sought}
use Rattle.finder.specs.Search.{Search, whole}

-- the codes of the outcomes, for callers in other languages
abbrev pub outcome_code : Outcome → ℕ
outcome_code Refused = 0
outcome_code Found = 1
outcome_code NoRound = 2
outcome_code UsedUp = 3

-- ---- the search s within a budget of b nodes: whole where it has no more nodes, and otherwise b of them, with another one due

unfoldable pub outcome_of : ℕ → Search → Outcome
outcome_of b s = cond (leb s.nodes b) (cond s.found Found NoRound) UsedUp

-- the nodes entered
unfoldable pub nodes_of : ℕ → Search → ℕ
nodes_of b s = cond (leb s.nodes b) s.nodes b

-- what is then in the lent list, which held old
unfoldable pub list_after : ℕ → Search → List ℕ → List ℕ
list_after b s old = cond (leb s.nodes b && s.found) s.list old

-- ---- the call

-- a refusal counts no node
abbrev pub refused : Answer → Sought
refused answer = record { answer = answer; outcome = Refused; nodes = 0 }

-- what it hands back
unfoldable pub first_call : Work → ℕ → List ℕ → Sought
first_call w b old =
    let s = whole w in
    let taken : Sought = record { answer = card 0; outcome = outcome_of b s; nodes = nodes_of b s } in
    cond (bad w) (refused (card 7))
    (cond (not (eqb (length old) w.n)) (refused (card 9))
    taken)

-- and what it leaves in the list
unfoldable pub first_list : Work → ℕ → List ℕ → List ℕ
first_list w b old =
    let taken = list_after b (whole w) old in
    cond (bad w) old
    (cond (not (eqb (length old) w.n)) old
    taken)
