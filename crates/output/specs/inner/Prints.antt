-- How many station lines are printed.
use Rattle.std.specs.Prelude.{cond, ℕ}
use Rattle.circuit.specs.declared.state.Work.{Work}
use Rattle.circuit.specs.State.{is_none}

-- the stations whose lines are printed: all, unless the end is none
abbrev pub shown : Work → ℕ
shown w = cond (is_none w.end) 0 w.n
