-- `sheet::writing::put_records` meets its contract. The invariant: of the records, those from station i on are still to be written. Assumes nothing.
use mathlib.Core.List.{[]}
use Rattle.writer.proofs.FillingLaws.{Filling}
use Rattle.sheet.specs.Layout.{entries_bytes}
use Rattle.sheet.specs.Write.{page_of}
use Rattle.sheet.proofs.WriteLaws.{records_from}
use Rattle.sheet.proofs.writing.put_records.Given as goal

abbrev pub invariant-loop-row : goal.invariant-loop-row
invariant-loop-row l = Filling (entries_bytes (page_of l.n l.rows).entries []) (records_from l.n l.rows l.row-index) l.initial.buf l.buf l.at
