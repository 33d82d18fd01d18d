-- `report::put_lines` meets its contract. The invariant: of the lines, those from i on are still to be written. Assumes nothing.
use Prim.Native.Nat.{◌-◌}
use Rattle.report.specs.Lines.{lines_from}
use Rattle.writer.proofs.FillingLaws.{Filling}
use Rattle.report.proofs.put_lines.Given as goal

abbrev pub invariant-loop-i : goal.invariant-loop-i
invariant-loop-i l = Filling (lines_from l.n 0 l.rows) (lines_from (l.n - l.i) l.i l.rows) l.initial.buf l.buf l.at
