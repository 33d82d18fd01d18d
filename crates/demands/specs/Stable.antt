-- What a stable end means after a list of calls, and what it does not promise (W-212).
use Rattle.std.specs.Prelude.{◌≡◌, Bool, true, ◌&&◌, List, [], ◌∷◌, ℕ, ◌+◌, ◌≤◌, eqb}
use Rattle.circuit.specs.declared.state.Work.{Work}
use Rattle.circuit.specs.Card.{is_word}
use Rattle.circuit.specs.Legs.{legs}
use Rattle.circuit.specs.Round.{RoundOf, All, Drivable}
use Rattle.circuit.specs.State.{rows_of}
use Rattle.sheet.specs.Open.{open_call}
use Rattle.sheet.specs.Write.{sheet_of}
use Rattle.filter.specs.Calls.{run_call}
use Rattle.filter.specs.Ends.{full_budget}
use Rattle.filter.specs.Stable.{one_cycle, StableMeans}
use Rattle.demands.specs.Sequence.{Call, after_all}
use Rattle.demands.specs.Examples.{Start, table, leg, begun}

-- of the list of calls cs, from the opened state w, where the end after it is stable
pub record StableAfter (w : Work) (cs : List Call) : Type 0 where
  -- no sweep, chain step or pass by hand changes anything more
  pub means : StableMeans (after_all w cs)
  -- the sheet of what is left, sent back and opened with the same limit, runs to the same state in one cycle
  pub sent_back : (budget : ℕ) → w.n + 2 ≤ budget → run_call (open_call (sheet_of (after_all w cs)) w.limit).work budget ≡ one_cycle (after_all w cs)

-- ---- stable does not promise a round

-- the Petersen graph, each edge both ways: the pentagon 1–2–3–4–5, a spoke from each of its stations, the pentagram 6–8–10–7–9
unfoldable pub petersen : Start
petersen =
    table 10
    (leg 1 2 ∷ leg 2 1 ∷ leg 2 3 ∷ leg 3 2 ∷ leg 3 4 ∷ leg 4 3 ∷ leg 4 5 ∷ leg 5 4 ∷ leg 5 1 ∷ leg 1 5
    ∷ leg 1 6 ∷ leg 6 1 ∷ leg 2 7 ∷ leg 7 2 ∷ leg 3 8 ∷ leg 8 3 ∷ leg 4 9 ∷ leg 9 4 ∷ leg 5 10 ∷ leg 10 5
    ∷ leg 6 8 ∷ leg 8 6 ∷ leg 8 10 ∷ leg 10 8 ∷ leg 10 7 ∷ leg 7 10 ∷ leg 7 9 ∷ leg 9 7 ∷ leg 9 6 ∷ leg 6 9 ∷ [])

-- it has 30 legs, and a run is stable after 12 steps with nothing removed
unfoldable pub petersen_stable : Bool
petersen_stable =
    let w = begun petersen in
    let r = run_call w full_budget in
    eqb (legs w.n (rows_of w)) 30 && is_word "stable" r.work.end && eqb r.steps 12 && eqb r.removed 0

pub record NoPromise : Type 0 where
  pub stable : petersen_stable ≡ true
  -- it has no round
  pub none : (h : ℕ → ℕ) → RoundOf 10 (rows_of (begun petersen)) h → ⊥
  -- so none of the legs that are left can be driven
  pub undriven : (i j : ℕ) → Drivable All 10 (rows_of (begun petersen)) i j → ⊥
