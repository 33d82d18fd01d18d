-- `separator::reach::components_of` meets its contract. The invariant: the components found, and those of `rest`, are all components; each found has
-- taken a station out of `rest`. Assumes nothing.
use mathlib.Core.Path.{◌≡◌}
use Prim.Native.Nat.{◌+◌, ◌^◌, ◌≤◌, ◌<◌}
use lib.Count.{ones}
use lib.ListN.{length}
use Rattle.circuit.specs.Legs.{leg}
use Rattle.separator.specs.inner.Reach.{Mutual}
use Rattle.separator.proofs.PartLaws.{Listing}
use Rattle.separator.proofs.reach.components_of.Given as goal

abbrev pub invariant-loop-rest : goal.invariant-loop-rest
invariant-loop-rest l = (length l.part ≡ 64) × (l.rest < 2 ^ 64) × (l.count + ones l.rest ≤ 64) × (Mutual l.nbr → Listing 64 (leg l.nbr) l.outside l.part l.count l.rest)

abbrev pub decreases-loop-rest : goal.decreases-loop-rest
decreases-loop-rest l = ones l.rest
