-- `roads::is_inside` meets its contract. The invariant: `ok` says whether the rows before i are inside. Assumes nothing.
use mathlib.Core.Path.{◌≡◌}
use mathlib.Core.Bool.{not, ◌||◌}
use Rattle.circuit.specs.Legs.{leg}
use Rattle.bitset.specs.Sets.{all}
use Rattle.roads.proofs.checks.is_inside.Given as goal

abbrev pub invariant-loop-i : goal.invariant-loop-i
invariant-loop-i l = l.ok ≡ all l.i (λ k. all 64 (λ j. not (leg l.must k j) || leg l.rows k j))
