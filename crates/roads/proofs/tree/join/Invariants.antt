-- `roads::join` meets its contract. The invariant: the words before i are joined. Assumes nothing.
use mathlib.Core.Bool.{cond}
use Prim.Native.Nat.{◌^◌}
use lib.Bits.{bit_or}
use Rattle.bitset.specs.Upto.{row}
use Rattle.bitset.specs.Sets.{has}
use Rattle.bitset.proofs.UptoLaws.{Changed}
use Rattle.roads.proofs.tree.join.Given as goal

abbrev pub invariant-loop-i : goal.invariant-loop-i
invariant-loop-i l = Changed 64 (λ a. cond (has (row l.initial.words a) l.p) (bit_or (row l.initial.words a) (2 ^ l.u)) (row l.initial.words a)) l.initial.words l.i l.words
