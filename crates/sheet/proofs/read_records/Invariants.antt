-- `sheet::read_records` meets its contract. The invariant: the records that were read so far. Assumes nothing.
use Rattle.sheet.proofs.RecordsLaws.{SoFar}
use Rattle.sheet.proofs.read_records.Given as goal

abbrev pub invariant-loop-i : goal.invariant-loop-i
invariant-loop-i l = SoFar l.n l.sheet l.rows l.barred l.at l.i
