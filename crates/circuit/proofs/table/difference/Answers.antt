use mathlib.Core.Bool.{not, ◌&&◌}
use Prim.Native.Nat.{ℕ}
use native.Mathlib.Omega.{arith}
use lib.ListN.{length-replicate}
use Rattle.bitset.proofs.UptoLaws.{filled_none, filled_more, filled_all}
use Rattle.circuit.specs.Legs.{leg, table_of, without}
use Rattle.circuit.proofs.LegsLaws.{word_at}
use Rattle.circuit.proofs.table.difference.Goals as goal

pub loop-i-init : goal.loop-i-init
loop-i-init c = filled_none 64 _ _ (length-replicate {A = ℕ} 64 0)

pub loop-i-preserved : goal.loop-i-preserved
unfolding leg
loop-i-preserved c =
    let v = c in
    let a = v.args in
    filled_more _ v.loop-i.invariant (omega arith) (word_at 64 (λ x y. leg a.rows.now x y && not (leg a.other.now x y)) v.loop-i.i _ (omega arith) c.difference.ensures)

pub returns : goal.returns
unfolding without table_of
returns c = filled_all c.loop-i.invariant (omega arith)
