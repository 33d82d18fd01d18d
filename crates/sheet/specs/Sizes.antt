-- How long a sheet is: the most bytes that a taken sheet has, and the most that are written.
use Rattle.std.specs.Prelude.{◌≡◌, List, ℕ, ◌≤◌, length}
use Rattle.circuit.specs.declared.state.Work.{Work}
use Rattle.circuit.specs.Card.{card}
use Rattle.circuit.specs.State.{Good}
use Rattle.sheet.specs.Layout.{Page, bytes_of, WellFormed}
use Rattle.sheet.specs.Open.{open_call}
use Rattle.sheet.specs.Write.{sheet_of}

-- the bytes of the longest sheet: one, and 18 for each of 64 stations
abbrev pub sheet_most : ℕ
sheet_most = 1153

-- no sheet of more than m bytes is taken, and under each good limit one of m bytes is
pub record LongestSheet (m : ℕ) : Type 0 where
  pub most : (s : List ℕ) (limit : ℕ) → (open_call s limit).answer ≡ card 0 → length s ≤ m
  pub page : Page
  pub well : WellFormed page
  pub size : length (bytes_of page) ≡ m
  pub reached : (limit : ℕ) → 1 ≤ limit → limit ≤ 64 → (open_call (bytes_of page) limit).answer ≡ card 0

-- the bytes of the longest sheet that is written: one, and 9 for each of 64 stations
abbrev pub written_most : ℕ
written_most = 577

-- no good state has a sheet of more than m bytes, and one has m
pub record LongestWritten (m : ℕ) : Type 0 where
  pub most : (w : Work) → Good w → length (sheet_of w) ≤ m
  pub work : Work
  pub good : Good work
  pub reached : length (sheet_of work) ≡ m
