-- `roads::mark` meets its contract. The invariant: the rows before i are marked. Assumes nothing.
use mathlib.Core.Bool.{◌&&◌, ◌||◌, xor}
use Rattle.bitset.specs.Sets.{has, set_of}
use Rattle.bitset.proofs.UptoLaws.{Changed}
use Rattle.circuit.specs.Legs.{leg}
use Rattle.roads.proofs.marking.mark.Given as goal

abbrev pub invariant-loop-i : goal.invariant-loop-i
invariant-loop-i l = Changed 64 (λ a. set_of 64 (λ b. leg l.initial.table a b || (xor (has l.x a) (has l.x b) && leg l.roads a b))) l.initial.table l.i l.table
