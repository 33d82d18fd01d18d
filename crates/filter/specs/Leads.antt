-- What every call keeps: the laws for a library above this one.
use Rattle.std.specs.Prelude.{◌≡◌, ◌⊎◌, ℕ, length}
use Rattle.circuit.specs.declared.state.Work.{Work}
use Rattle.circuit.specs.Card.{ending}
use Rattle.circuit.specs.Legs.{Subtable}
use Rattle.circuit.specs.Round.{RoundOf}
use Rattle.circuit.specs.State.{rows_of, Good}
use Rattle.filter.specs.Calls.{run_call}
use Rattle.filter.specs.Ends.{Ended}

-- of a call that was given v and handed back w, and a class P of rounds: the rules of the paper keep all rounds, so each class
pub record Leads (P : (ℕ → ℕ) → Type 0) (v w : Work) : Type 0 where
  -- n and the limit stay
  pub stations : w.n ≡ v.n
  pub limit : w.limit ≡ v.limit
  -- a table of 64 words stays one
  pub long : length (rows_of v) ≡ 64 → length (rows_of w) ≡ 64
  -- legs are only removed
  pub sub : Subtable (rows_of w) (rows_of v)
  -- each round of the class is kept
  pub rounds : (h : ℕ → ℕ) → P h → RoundOf v.n (rows_of v) h → RoundOf v.n (rows_of w) h
  -- the end is none only where it was, or where there is no such round
  pub none : w.end ≡ ending "none" → (v.end ≡ ending "none") ⊎ ((h : ℕ → ℕ) → P h → RoundOf v.n (rows_of v) h → ⊥)
  -- a good state stays good
  pub keeps : Good v → Good w

-- of any work state and two budgets
pub record Budgets (w : Work) (a b : ℕ) : Type 0 where
  -- every leg gone after the smaller is gone after the larger
  pub gone : Subtable (rows_of (run_call w b).work) (rows_of (run_call w a).work)
  -- where the smaller ends stable or none, the larger hands back the same state, steps and removals
  pub same : Ended (run_call w a).work → run_call w b ≡ run_call w a
