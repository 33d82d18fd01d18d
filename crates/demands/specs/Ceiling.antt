-- How long a run can take (W-206).
use Rattle.std.specs.Prelude.{◌≡◌, false, List, ℕ, ◌+◌, ◌≤◌}
use Rattle.circuit.specs.declared.state.Work.{Work}
use Rattle.circuit.specs.Card.{card}
use Rattle.circuit.specs.Legs.{legs}
use Rattle.circuit.specs.State.{rows_of, Good}
use Rattle.sheet.specs.Open.{open_call}
use Rattle.filter.specs.Calls.{run_call}
use Rattle.filter.specs.Ends.{Ended, ceiling, full_budget, EndsWithin}
use Rattle.demands.specs.Sequence.{Call, after_all}

pub record Ceiling : Type 0 where
  -- a good state with place 0, mark clear and L legs: at most (n + 2) * (L + 1) steps, also where its end is not open
  pub begun : (w : Work) → Good w → w.place ≡ 0 → w.mark ≡ false → EndsWithin w (ceiling w.n (legs w.n (rows_of w)))
  -- for 64 stations and 4,032 legs that is 266,178
  pub largest : ceiling 64 4032 ≡ 266178
  -- and no sheet that is opened has a higher ceiling
  pub opened : (sheet : List ℕ) (limit : ℕ) → (open_call sheet limit).answer ≡ card 0 → EndsWithin (open_call sheet limit).work (ceiling 64 4032)
  -- any place and either mark: at most as many as with a leg more
  pub anywhere : (w : Work) → Good w → EndsWithin w (ceiling w.n (legs w.n (rows_of w) + 1))
  -- so the program's budget is enough for every good state
  pub enough : (w : Work) → Good w → (budget : ℕ) → full_budget ≤ budget → Ended (run_call w budget).work
  -- and so for every sheet that is opened, after any list of calls, the empty one too
  pub sequence : (sheet : List ℕ) (limit : ℕ) → (open_call sheet limit).answer ≡ card 0 → (cs : List Call) (budget : ℕ) → full_budget ≤ budget
      → Ended (run_call (after_all (open_call sheet limit).work cs) budget).work
