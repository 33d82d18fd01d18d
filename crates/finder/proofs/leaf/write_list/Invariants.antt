-- `finder::leaf::write_list` meets its contract.
use Prim.Native.Nat.{suc}
use lib.ListN.{get_or, length}
use lib.Count.{count_trailing_zeros}
use Rattle.bitset.proofs.UptoLaws.{Filled}
use Rattle.finder.proofs.leaf.write_list.Given as goal

abbrev pub invariant-loop-i : goal.invariant-loop-i
invariant-loop-i l = Filled (length l.initial.list) (λ k. suc (count_trailing_zeros 64 (get_or l.rows k 0))) l.i l.list
