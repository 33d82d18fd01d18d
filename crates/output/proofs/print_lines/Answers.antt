-- `output::print_lines` meets its contract. Assumes nothing.
use mathlib.Core.Path.{◌≡◌}
use mathlib.Core.List.{◌++◌}
use Prim.Native.Nat.{◌+◌}
use native.Mathlib.Omega.{arith}
use lib.ListN.{length, length-append}
use Rattle.writer.proofs.WriterLaws.{wrote_then}
use Rattle.circuit.proofs.FillLaws.{no_room, taken}
use Rattle.report.specs.Lines.{lines_from}
use Rattle.output.proofs.print_lines.Goals.{Start}
use Rattle.output.proofs.print_lines.Goals as goal

-- how long the text is
size : (c : Start) → length (c.args.head.now ++ lines_from c.args.n 0 c.args.rows.now) ≡ length c.args.head.now + length (lines_from c.args.n 0 c.args.rows.now)
size c = length-append c.args.head.now (lines_from c.args.n 0 c.args.rows.now)

pub returns-then-buf-head : goal.returns-then-buf-head
returns-then-buf-head c = let size = size (goal.at.returns-then-buf-head c).Start in no_room _ _ (omega arith)

pub returns : goal.returns
returns c =
    let size = size (goal.at.returns c).Start in
    taken _ _ _ _ (omega arith) (wrote_then c.put_head-at.ensures c.put_lines.ensures)
