-- `filter::find_chains` meets its contract.
use mathlib.Core.Bool.{Bool}
use mathlib.Core.List.{List}
use Prim.Native.Nat.{ℕ, pred}
use Rattle.filter.specs.Chain.{nexts, joined}
use Rattle.filter.proofs.FindLaws.{Finding}
use Rattle.filter.proofs.chaining.find_chains.Given as goal

-- the stations that are met from b
abbrev pub ways : ℕ → List ℕ → ℕ → ℕ → Bool
ways n prev = joined n (nexts n prev) (pred (pred n))

abbrev pub invariant-loop-b : goal.invariant-loop-b
invariant-loop-b l = Finding l.n (ways l.n l.prev) l.into l.ends l.b-iterator.rest l.closing l.met
