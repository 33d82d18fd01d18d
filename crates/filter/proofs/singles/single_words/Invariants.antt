-- `filter::single_words` meets its contract: what is gathered is that of the rows so far.
use Rattle.filter.specs.inner.Singles.{SinglesOf}
use Rattle.filter.proofs.singles.single_words.Given as goal

abbrev pub invariant-loop-row : goal.invariant-loop-row
invariant-loop-row l = SinglesOf l.row-index l.rows (record { empty = l.empty; reached = l.reached; again = l.again; once = l.once; twice = l.twice })
