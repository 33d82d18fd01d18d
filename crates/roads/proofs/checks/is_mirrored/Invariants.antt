-- `roads::is_mirrored` meets its contract. The invariant: `ok` says whether the rows before i are the columns. Assumes nothing.
use mathlib.Core.Path.{◌≡◌}
use lib.Dec.{eqb}
use Rattle.bitset.specs.Upto.{row}
use Rattle.bitset.specs.Sets.{all}
use Rattle.roads.proofs.checks.is_mirrored.Given as goal

abbrev pub invariant-loop-i : goal.invariant-loop-i
invariant-loop-i l = l.ok ≡ all l.i (λ k. eqb (row l.rows k) (row l.cols k))
