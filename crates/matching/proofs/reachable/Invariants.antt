-- `matching::reachable` meets its contract. The invariant is `Search`. A turn adds to `reach` or takes from `rest`: the measure counts `reach` first.
-- Assumes nothing.
use mathlib.Core.Path.{◌≡◌}
use Prim.Native.Nat.{◌<◌, ◌+◌, ◌-◌, ◌*◌, ◌^◌}
use lib.ListN.{length}
use Rattle.bitset.specs.Upto.{row}
use Rattle.matching.proofs.SearchLaws.{Search}
use Rattle.matching.proofs.reachable.Given as goal

abbrev pub invariant-loop-rest : goal.invariant-loop-rest
invariant-loop-rest l = (l.reach < 2 ^ 64) × (l.rest < 2 ^ 64) × (length l.via ≡ 64) × Search l.fits l.stations l.free (row l.owner) (row l.via) l.reach l.rest

abbrev pub decreases-loop-rest : goal.decreases-loop-rest
decreases-loop-rest l = (2 ^ 64 - l.reach) * 2 ^ 64 + l.rest
