-- `filter::take_levels` meets its contract: at level k, what is left of the pass is the whole pass.
use mathlib.Core.Path.{◌≡◌}
use Rattle.separator.specs.inner.Reach.{Linked}
use Rattle.filter.proofs.TakeLaws.{Passing}
use Rattle.filter.proofs.passing.take_levels.Given as goal

abbrev pub invariant-loop-k : goal.invariant-loop-k
invariant-loop-k l = record {
  stations : l.net.n ≡ l.initial.net.n;
  passing : Passing l.initial.net.n l.limit l.found.count l.found.level l.initial.net.rows l.k l.struck l.net.rows;
  near : Linked l.net.n l.net.rows l.nbr;
}
