-- `separator::reach::neighbourhood` meets its contract: the union of the members' words is what they lead to. Assumes nothing.
use mathlib.Core.Path.{ap, ◌∙◌}
use Prim.Native.Nat.{ℕ}
use Rattle.bitset.specs.Sets.{has}
use Rattle.bitset.proofs.SetLaws.{has_set_of}
use Rattle.separator.proofs.NeighbourLaws.{hit, neighbourhood_of}
use Rattle.separator.proofs.reach.neighbourhood.Goals as goal

pub returns : goal.returns
returns c =
    let a = c.args in
    let u = c.union_of_rows in
    λ n t d h. neighbourhood_of a.set u.result d h u.type_inv (λ k l. ap (λ (w : ℕ). has w k) u.ensures ∙ has_set_of 64 (hit a.nbr.now a.set) k l)
