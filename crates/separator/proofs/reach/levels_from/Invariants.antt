-- `separator::reach::levels_from` meets its contract. The invariant: the levels found, and those from `last` on, are all levels; each level found has a
-- station of its own in `seen`, so there are at most 64. At the end `seen` has the stations of all levels. Assumes nothing.
use mathlib.Core.Path.{◌≡◌}
use mathlib.Core.List.{List}
use Prim.Native.Nat.{ℕ, ◌+◌, ◌-◌, ◌^◌, ◌≤◌, ◌<◌}
use lib.Count.{ones}
use lib.ListN.{length}
use Rattle.separator.specs.inner.Reach.{Linked}
use Rattle.separator.proofs.LevelsLaws.{Finding}
use Rattle.separator.proofs.reach.levels_from.Given as goal

abbrev pub Inv : List ℕ → ℕ → ℕ → List ℕ → ℕ → ℕ → ℕ → Type 0
Inv nbr n seed level count seen last =
    (length level ≡ 64) × (seen < 2 ^ 64) × (count + ones last ≤ ones seen)
    × ((t : List ℕ) → Linked n t nbr → Finding n t seed level count seen last)

abbrev pub invariant-loop-last : goal.invariant-loop-last
invariant-loop-last l = Inv l.nbr l.n l.seed l.level l.count l.seen l.last

abbrev pub decreases-loop-last : goal.decreases-loop-last
decreases-loop-last l = 64 - l.count
