-- `filter::sweep_words` meets its contract: the rows so far are swept, the others as they were; and all are, where no leg went.
use mathlib.Core.Path.{◌≡◌}
use mathlib.Core.Bool.{false}
use lib.ListN.{take}
use Rattle.bitset.proofs.UptoLaws.{Changed}
use Rattle.filter.proofs.SweptLaws.{swept_row}
use Rattle.filter.proofs.sweeping.sweep_words.Given as goal

abbrev pub invariant-loop-row : goal.invariant-loop-row
invariant-loop-row l = Changed l.n (swept_row l.n l.fn.rows) (take l.n l.fn.rows) l.row-index l.row-items × (l.struck ≡ false → l.row-items ≡ take l.n l.fn.rows)
