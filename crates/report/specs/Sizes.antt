-- How long the station lines are.
use Rattle.std.specs.Prelude.{◌≡◌, List, ℕ, ◌≤◌, length}
use Rattle.circuit.specs.declared.state.Work.{Work}
use Rattle.circuit.specs.Legs.{full_table}
use Rattle.circuit.specs.State.{Good}
use Rattle.report.specs.Lines.{lines_from, text}

-- the station lines of the full table of n
abbrev pub full_text : ℕ → List ℕ
full_text n = lines_from n 0 (full_table n)

-- the bytes of the longest: 64 lines of 184
abbrev pub text_most : ℕ
text_most = 11776

-- no good state has station lines of more than m bytes, and one has m
pub record LongestText (m : ℕ) : Type 0 where
  pub most : (w : Work) → Good w → length (text w) ≤ m
  pub work : Work
  pub good : Good work
  pub reached : length (text work) ≡ m
