-- `sheet::writing::sheet_len` meets its contract. The invariant: `len` and the bytes of the records from station i on are those of the sheet. Assumes nothing.
use mathlib.Core.Path.{◌≡◌}
use Prim.Native.Nat.{◌+◌, ◌*◌, ◌≤◌}
use lib.ListN.{length}
use Rattle.sheet.specs.Layout.{bytes_of}
use Rattle.sheet.specs.Write.{page_of}
use Rattle.sheet.proofs.WriteLaws.{records_from}
use Rattle.sheet.proofs.writing.sheet_len.Given as goal

abbrev pub invariant-loop-row : goal.invariant-loop-row
invariant-loop-row l = (l.len ≤ 1 + 9 * l.row-index) × (l.len + length (records_from l.n l.rows l.row-index) ≡ length (bytes_of (page_of l.n l.rows)))
