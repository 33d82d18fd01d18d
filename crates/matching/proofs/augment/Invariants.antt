-- `matching::augment` meets its contract. The invariant is `Path`, at a station s; `rest` loses a station at each turn. Assumes nothing.
use mathlib.Core.Path.{◌≡◌}
use Prim.Native.Nat.{◌<◌, ◌^◌}
use lib.ListN.{length}
use Rattle.bitset.specs.Upto.{row}
use Rattle.matching.proofs.PathLaws.{Path}
use Rattle.matching.proofs.augment.Given as goal

abbrev pub invariant-loop-next : goal.invariant-loop-next
invariant-loop-next l = (l.s < 64) × (l.rest < 2 ^ 64) × (length l.owner ≡ 64)
    × Path l.fits l.n l.stations l.free l.reach (row l.via) (row l.owner) l.c l.s l.rest

abbrev pub decreases-loop-next : goal.decreases-loop-next
decreases-loop-next l = l.rest
