-- What W-209 says of one cut step, taken or refused.
use Rattle.std.specs.Prelude.{◌≡◌, List, ℕ}
use Rattle.circuit.specs.declared.state.Work.{Work}
use Rattle.circuit.specs.Card.{ending}
use Rattle.circuit.specs.Legs.{Subtable}
use Rattle.circuit.specs.Round.{RoundOf, NoneIn}
use Rattle.circuit.specs.State.{rows_of}
use Rattle.roads.specs.Cut.{DrivesAll}
use Rattle.cut.specs.Call.{cut_call}

-- of any work state w and any table m of must-drive roads
pub record CutKeeps (w : Work) (m : List ℕ) : Type 0 where
  -- every round that drives all the given must-drive roads survives
  pub survives : (h : ℕ → ℕ) → DrivesAll w.n m h → RoundOf w.n (rows_of w) h → RoundOf w.n (rows_of (cut_call w m).work) h
  -- and drives all the new ones
  pub drives : (h : ℕ → ℕ) → DrivesAll w.n m h → RoundOf w.n (rows_of w) h → DrivesAll w.n (cut_call w m).must h
  -- the end becomes none only where there is no such round
  pub none : (w.end ≡ ending "none" → ⊥) → (cut_call w m).work.end ≡ ending "none" → NoneIn (DrivesAll w.n m) w.n (rows_of w)
  -- legs only go
  pub gone : Subtable (rows_of (cut_call w m).work) (rows_of w)
