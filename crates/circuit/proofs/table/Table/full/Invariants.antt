-- `circuit::Table::full` meets its contract. The loop: the first i rows are done, the others empty.
use mathlib.Core.Path.{◌≡◌}
use Prim.Native.Nat.{◌^◌, ◌<◌}
use lib.ListN.{replicate}
use Rattle.bitset.proofs.UptoLaws.{Changed}
use Rattle.circuit.specs.inner.Tables.{full_row}
use Rattle.circuit.proofs.table.Table.full.Given as goal

abbrev pub invariant-loop-i : goal.invariant-loop-i
invariant-loop-i l = (l.i < 64 → l.own ≡ 2 ^ l.i) × Changed 64 (full_row l.stations) (replicate 64 0) l.i l.rows
