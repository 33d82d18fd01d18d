-- `separator::reach::neighbours` meets its contract. The invariant: the words of the stations below i are filled in. Assumes nothing.
use mathlib.Core.Bool.{cond}
use mathlib.Core.List.{List}
use Prim.Native.Nat.{ℕ}
use lib.Dec.{ltb}
use lib.ListN.{replicate}
use Rattle.bitset.specs.Sets.{set_of}
use Rattle.bitset.proofs.UptoLaws.{Changed}
use Rattle.circuit.specs.Legs.{neighbours}
use Rattle.separator.proofs.reach.neighbours.Given as goal

-- word i: the neighbours of i, or 0 beyond the n stations
abbrev pub word : ℕ → List ℕ → ℕ → ℕ
word n t i = cond (ltb i n) (set_of n (neighbours t i)) 0

abbrev pub invariant-loop-i : goal.invariant-loop-i
invariant-loop-i l = Changed 64 (word l.n l.rows) (replicate 64 0) l.i l.nbr
