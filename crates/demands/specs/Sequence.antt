-- Sequences of calls from the state that an opening handed back.
use Rattle.std.specs.Prelude.{◌≡◌, Bool, true, false, List, [], ◌∷◌, ℕ, replicate}
use Rattle.bitset.specs.Upto.{Each}
use Rattle.circuit.specs.declared.state.Work.{Work}
use Rattle.circuit.specs.Card.{card}
use Rattle.circuit.specs.Round.{RoundOf}
use Rattle.circuit.specs.State.{rows_of}
use Rattle.roads.specs.Cut.{DrivesAll}
use Rattle.filter.specs.declared.rule.Rule.{Rule}
use Rattle.filter.specs.Calls.{hand_call, run_call}
use Rattle.cut.specs.Call.{cut_call}

-- a call that hands back no state: a list check, a report into a buffer, the sheet written into a buffer, the search for the first round
-- with a node budget and a lent list
pub data Query : Type 0 where
  checking : List ℕ → Query
  reporting : List ℕ → Query
  writing : List ℕ → Query
  seeking : ℕ → List ℕ → Query

-- a call of a sequence: a rule by hand, a run with a budget, a cut step with a table of must-drive roads, a query
pub data Call : Type 0 where
  calling : Rule → Call
  running : ℕ → Call
  cutting : List ℕ → Call
  asking : Query → Call

-- the state that the next call gets: what a rule by hand, a run or a cut step hands back, taken or refused; a query leaves it as it is
unfoldable pub handed : Work → Call → Work
handed w (calling r) = (hand_call w r).work
handed w (running budget) = (run_call w budget).work
handed w (cutting must) = (cut_call w must).work
handed w (asking q) = w

-- the state after a list of calls, first call first
unfoldable pub after_all : Work → List Call → Work
after_all w [] = w
after_all w (c ∷ cs) = after_all (handed w c) cs

-- ---- the rounds that a list with cut steps speaks of (W-209)

-- those that drive every must-drive road given to the call, where it is a cut step that was not refused
abbrev pub DrivesGiven : Work → Call → (ℕ → ℕ) → Type 0
DrivesGiven w (calling r) h = Unit {0}
DrivesGiven w (running budget) h = Unit {0}
DrivesGiven w (cutting must) h = (cut_call w must).answer ≡ card 0 → DrivesAll w.n must h
DrivesGiven w (asking q) h = Unit {0}

-- those that do so for each call of the list
abbrev pub DrivesAllGiven : Work → List Call → (ℕ → ℕ) → Type 0
DrivesAllGiven w [] h = Unit {0}
DrivesAllGiven w (c ∷ cs) h = DrivesGiven w c h × DrivesAllGiven (handed w c) cs h

-- the list speaks of all rounds: each of the state's table drives what the cut steps were given
abbrev pub OfAllRounds : Work → List Call → Type 0
OfAllRounds w cs = (h : ℕ → ℕ) → RoundOf w.n (rows_of w) h → DrivesAllGiven w cs h

-- so does one without cut steps
unfoldable pub is_cut : Call → Bool
is_cut (calling r) = false
is_cut (running budget) = false
is_cut (cutting must) = true
is_cut (asking q) = false

abbrev pub NoCuts : List Call → Type 0
NoCuts cs = Each (λ (c : Call). is_cut c ≡ false) cs

-- and one whose first cut step is given no road and each later one what the one before it handed back; m is what the next one is given
unfoldable pub fed_back : Work → List ℕ → List Call → List Call
fed_back w m [] = []
fed_back w m (calling r ∷ cs) = calling r ∷ fed_back (handed w (calling r)) m cs
fed_back w m (running budget ∷ cs) = running budget ∷ fed_back (handed w (running budget)) m cs
fed_back w m (cutting _ ∷ cs) = cutting m ∷ fed_back (handed w (cutting m)) (cut_call w m).must cs
fed_back w m (asking q ∷ cs) = asking q ∷ fed_back (handed w (asking q)) m cs

abbrev pub no_roads : List ℕ
no_roads = replicate 64 0
