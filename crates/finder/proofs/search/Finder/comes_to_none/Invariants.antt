-- `Finder::comes_to_none` meets its contract.
use Rattle.circuit.specs.State.{state}
use Rattle.finder.specs.inner.Nodes.{node_at}
use Rattle.finder.specs.inner.Finders.{Lent}
use Rattle.finder.proofs.NodeLaws.{Closing}
use Rattle.finder.proofs.search.Finder.comes_to_none.Given as goal

abbrev pub invariant-loop : goal.invariant-loop
invariant-loop l = record {
  same : Lent l.fn.self l.self;
  closing : Closing (node_at l.fn.self.n l.fn.self.limit l.rows) (state l.fn.self.n l.self.spare l.fn.self.limit l.at.place l.at.mark l.at.end);
}
