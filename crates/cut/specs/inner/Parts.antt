-- What the functions of the cut step promise each other.
use Rattle.std.specs.Prelude.{List, ℕ}
use Rattle.filter.specs.declared.hand.CalledIn.{CalledIn}
use Rattle.filter.specs.inner.Steps.{state_at}
use Rattle.cut.specs.declared.CutCalled.{CutCalled}

-- what the cut step hands back, with the rows of both tables that it leaves
abbrev pub cut_as : ℕ → ℕ → List ℕ → List ℕ → CalledIn → CutCalled
cut_as n limit rows must r = record { answer = r.answer; work = state_at n rows limit r.at; must = must; removed = r.removed }
