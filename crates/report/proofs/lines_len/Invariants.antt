-- `report::lines_len` meets its contract. The invariant: `len` and the length of the lines from i on are the length of all lines. Assumes nothing.
use mathlib.Core.Path.{◌≡◌}
use Prim.Native.Nat.{◌+◌, ◌-◌, ◌*◌, ◌≤◌}
use lib.ListN.{length}
use Rattle.report.specs.Lines.{lines_from}
use Rattle.report.proofs.lines_len.Given as goal

abbrev pub invariant-loop-i : goal.invariant-loop-i
invariant-loop-i l = (l.len ≤ 196 * l.i) × (l.len + length (lines_from (l.n - l.i) l.i l.rows) ≡ length (lines_from l.n 0 l.rows))
