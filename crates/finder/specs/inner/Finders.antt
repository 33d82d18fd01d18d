-- What the functions of a search under way promise each other.
use Rattle.std.specs.Prelude.{◌≡◌, List, ℕ}
use Rattle.circuit.specs.declared.state.Work.{Work}
use Rattle.finder.specs.declared.outcome.Outcome.{Outcome}
use Rattle.finder.specs.declared.search.Finder.{Finder}
use Rattle.finder.specs.inner.Nodes.{node_at, stable_at}
use Rattle.finder.specs.inner.Parts.{Within}

-- the node with these rows, and its state after a run that leaves these rows and ends stable
abbrev pub node_of : Finder → List ℕ → Work
node_of f rows = node_at f.n f.limit rows

abbrev pub stable_of : Finder → List ℕ → Work
stable_of f rows = stable_at f.n f.limit rows

-- how a part comes out, what it leaves of the budget, and what is then in the list
abbrev pub given : Outcome → Finder → Within
given o f = record { outcome = o; left = f.left; list = f.list.now }

-- the state that is searched, and where its list lies
pub record Kept (f g : Finder) : Type 0 where
  pub n : g.n ≡ f.n
  pub limit : g.limit ≡ f.limit
  pub same_reference : g.list.ghost_name ≡ f.list.ghost_name

-- nothing but the spare table is written
pub record Lent (f g : Finder) : Type 0 where
  pub kept : Kept f g
  pub left : g.left ≡ f.left
  pub list : g.list.now ≡ f.list.now
