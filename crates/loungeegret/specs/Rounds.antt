-- The first round after calls on the same lent words (W-210).
use Rattle.std.specs.Prelude.{◌≡◌, List, ℕ}
use Rattle.circuit.specs.declared.state.Work.{Work}
use Rattle.circuit.specs.Round.{All, NoneIn}
use Rattle.circuit.specs.State.{rows_of}
use Rattle.circuit.specs.Check.{choice_of}
use Rattle.sheet.specs.Open.{open_call}
use Rattle.finder.specs.declared.outcome.Outcome.TheVariants.{Found, NoRound}
use Rattle.finder.specs.Call.{first_call, first_list}
use Rattle.finder.specs.First.{First}
use Rattle.demands.specs.Sequence.{Call, DrivesAllGiven, OfAllRounds}
use Rattle.loungeegret.specs.Words.{loaded}
use Rattle.loungeegret.specs.Sequence.{opened_words, words_all}

-- of a search on the lent words s with a node budget b and a list that holds old, where w is the opened state, and a class P of rounds
pub record FirstWords (P : (ℕ → ℕ) → Type 0) (w : Work) (s : List ℕ) (b : ℕ) (old : List ℕ) : Type 0 where
  -- found: the list names a round of the opened table that none of the class comes before
  pub found : (first_call (loaded s) b old).outcome ≡ Found → First P w.n (rows_of w) (choice_of (first_list (loaded s) b old))
  -- no round is said only where the opened table has none of the class
  pub none : (first_call (loaded s) b old).outcome ≡ NoRound → NoneIn P w.n (rows_of w)

-- of words s that suffice for a state, after an opening and a list of calls
pub record SearchWords (s sheet : List ℕ) (limit : ℕ) (cs : List Call) (b : ℕ) (old : List ℕ) : Type 0 where
  -- the rounds are those that drive every must-drive road given to the cut steps of the list that were not refused
  pub list : FirstWords (DrivesAllGiven (open_call sheet limit).work cs) (open_call sheet limit).work (words_all (opened_words s sheet limit) cs) b old
  -- all rounds, where the list speaks of them: without cut steps, or where these get no must-drive roads but those that they handed back
  pub all_rounds : OfAllRounds (open_call sheet limit).work cs → FirstWords All (open_call sheet limit).work (words_all (opened_words s sheet limit) cs) b old
