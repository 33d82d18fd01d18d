-- `circuit::good_entries` meets its contract. The invariant: are the entries below i good?
use mathlib.Core.Path.{◌≡◌}
use lib.ListN.{get_or}
use Rattle.bitset.specs.Sets.{all}
use Rattle.bitset.specs.Upto.{row}
use Rattle.circuit.specs.inner.Lists.{good_entry}
use Rattle.circuit.proofs.list.good_entries.Given as goal

abbrev pub invariant-loop-i : goal.invariant-loop-i
invariant-loop-i l = l.good ≡ all l.i (λ k. good_entry l.n (row l.rows k) (get_or l.list k 0))
