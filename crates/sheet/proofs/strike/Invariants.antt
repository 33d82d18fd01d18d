-- `sheet::strike` meets its contract: a loop that changes the rows in place. Assumes nothing.
use Rattle.bitset.proofs.UptoLaws.{Changed}
use Rattle.sheet.proofs.TableLaws.{struck_row}
use Rattle.sheet.proofs.strike.Given as goal

abbrev pub invariant-loop-i : goal.invariant-loop-i
invariant-loop-i l = Changed 64 (struck_row l.n l.initial.rows l.barred) l.initial.rows l.i l.rows
