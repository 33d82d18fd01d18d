-- `filter::strike_closing` meets its contract: the rows of the ends so far are struck, the others as they were; and all are, where no leg went.
use mathlib.Core.Path.{◌≡◌}
use mathlib.Core.Bool.{false}
use Rattle.filter.proofs.StrikeLaws.{Striking}
use Rattle.filter.proofs.chaining.strike_closing.Given as goal

abbrev pub invariant-loop-b : goal.invariant-loop-b
invariant-loop-b l = Striking l.initial.rows l.closing l.ends l.b-iterator.rest l.rows × (l.struck ≡ false → l.rows ≡ l.initial.rows)
