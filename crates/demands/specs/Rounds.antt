-- The search for the first round after a list of calls, and examples of it (W-210).
use Rattle.std.specs.Prelude.{◌≡◌, Bool, true, ◌&&◌, List, [], ◌∷◌, ℕ, eqb, replicate}
use Rattle.bitset.specs.Sets.{all}
use Rattle.bitset.specs.Upto.{row}
use Rattle.circuit.specs.declared.state.Work.{Work}
use Rattle.circuit.specs.Round.{All, NoneIn}
use Rattle.circuit.specs.State.{rows_of}
use Rattle.circuit.specs.Check.{choice_of, check_call}
use Rattle.finder.specs.declared.outcome.Outcome.{Outcome}
use Rattle.finder.specs.declared.outcome.Outcome.TheVariants.{Found, NoRound, UsedUp}
use Rattle.finder.specs.Call.{outcome_code, first_call, first_list}
use Rattle.finder.specs.First.{First}
use Rattle.demands.specs.Sequence.{Call, after_all, DrivesAllGiven, OfAllRounds}
use Rattle.demands.specs.Examples.{Start, table, sheet, leg, begun, nine_legs, butterfly}

-- of the list of calls cs, from the opened state w, and a class P of rounds: the search after it, with a node budget b and a lent list that
-- is n long
pub record FirstAfter (P : (ℕ → ℕ) → Type 0) (w : Work) (cs : List Call) (b : ℕ) (old : List ℕ) : Type 0 where
  -- found: the list names a round of the opened table that none of the class comes before, and passes the list check on the opened state
  pub found : (first_call (after_all w cs) b old).outcome ≡ Found → First P w.n (rows_of w) (choice_of (first_list (after_all w cs) b old))
  pub passes : (first_call (after_all w cs) b old).outcome ≡ Found → (check_call w (first_list (after_all w cs) b old)).yes ≡ true
  -- no round is said only where the opened table has none of the class
  pub none : (first_call (after_all w cs) b old).outcome ≡ NoRound → NoneIn P w.n (rows_of w)

-- of searches after lists of calls from the opened state w, with lent lists that are n long
pub record SearchAfter (w : Work) (old : List ℕ) : Type 0 where
  -- the rounds are those that drive every must-drive road given to the cut steps of the list that were not refused
  pub list : (cs : List Call) (b : ℕ) → FirstAfter (DrivesAllGiven w cs) w cs b old
  -- where the list speaks of all rounds: found is the first round of the opened table, no round is said only where that has none
  pub all_rounds : (cs : List Call) (b : ℕ) → OfAllRounds w cs → FirstAfter All w cs b old
  -- so after other such calls, or none, and with another budget the found list is the same
  pub same : (cs ds : List Call) (b c : ℕ) → OfAllRounds w cs → OfAllRounds w ds → (first_call (after_all w cs) b old).outcome ≡ Found → (first_call (after_all w ds) c old).outcome ≡ Found
      → first_list (after_all w cs) b old ≡ first_list (after_all w ds) c old

-- ---- examples

-- a search with a budget of so many nodes enters them all and comes out so, and a list of zeros then has these numbers
unfoldable pub seeks : Start → ℕ → Outcome → List ℕ → Bool
seeks s nodes outcome numbers =
    let w = begun s in
    let old : List ℕ = replicate w.n 0 in
    let r = first_call w nodes old in
    let list = first_list w nodes old in
    eqb (outcome_code r.outcome) (outcome_code outcome) && eqb r.nodes nodes && all w.n (λ i. eqb (row list i) (row numbers i))

-- all legs of three
unfoldable pub full_of_three : Start
full_of_three = sheet (3 ∷ 0 ∷ 0 ∷ 0 ∷ []) 64

-- the catalogue's example without the legs of a station to itself: 1 to 3 or 4, 2 to 1, 3 to any other, 4 to 2 or 3
unfoldable pub catalogue : Start
catalogue = table 4 (leg 1 3 ∷ leg 1 4 ∷ leg 2 1 ∷ leg 3 1 ∷ leg 3 2 ∷ leg 3 4 ∷ leg 4 2 ∷ leg 4 3 ∷ [])

-- the root's first child ends none, its second has the round
unfoldable pub second_child : Start
second_child = table 4 (leg 1 2 ∷ leg 1 3 ∷ leg 2 1 ∷ leg 2 4 ∷ leg 3 2 ∷ leg 3 4 ∷ leg 4 1 ∷ leg 4 3 ∷ [])

-- the root ends stable, and both its children end none
unfoldable pub no_child : Start
no_child = table 5 (leg 1 2 ∷ leg 1 5 ∷ leg 2 3 ∷ leg 2 4 ∷ leg 2 5 ∷ leg 3 2 ∷ leg 3 4 ∷ leg 4 1 ∷ leg 4 3 ∷ leg 5 1 ∷ leg 5 4 ∷ [])

unfoldable pub searches : Bool
searches =
    seeks full_of_three 4 Found (2 ∷ 3 ∷ 1 ∷ [])
    && seeks full_of_three 3 UsedUp (0 ∷ 0 ∷ 0 ∷ [])
    && seeks butterfly 1 NoRound (0 ∷ 0 ∷ 0 ∷ 0 ∷ 0 ∷ [])
    && seeks catalogue 5 Found (3 ∷ 1 ∷ 4 ∷ 2 ∷ [])
    && seeks second_child 6 Found (3 ∷ 4 ∷ 2 ∷ 1 ∷ [])
    && seeks no_child 3 NoRound (0 ∷ 0 ∷ 0 ∷ 0 ∷ 0 ∷ [])
    && seeks (sheet nine_legs 64) 7 Found (4 ∷ 5 ∷ 6 ∷ 2 ∷ 3 ∷ 1 ∷ [])
