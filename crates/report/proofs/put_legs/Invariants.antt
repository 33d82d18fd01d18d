-- `report::put_legs` meets its contract. The invariant: of the legs of the row, those of the members that are left are still to be written. Assumes nothing.
use Prim.Native.Nat.{◌^◌, ◌<◌}
use Rattle.report.specs.Lines.{legs_to}
use Rattle.writer.proofs.WriterLaws.{Writing}
use Rattle.report.proofs.put_legs.Given as goal

abbrev pub invariant-loop-k : goal.invariant-loop-k
invariant-loop-k l = (l.k-iterator.rest < 2 ^ 64) × Writing (legs_to 64 0 l.row) (legs_to 64 0 l.k-iterator.rest) l.initial.out l.out
