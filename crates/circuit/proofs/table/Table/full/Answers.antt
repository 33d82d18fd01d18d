use mathlib.Core.Path.{◌≡◌, refl, sym, ap, ◌∙◌}
use Prim.Native.Nat.{ℕ, ◌^◌}
use native.Mathlib.Omega.{arith}
use lib.ListN.{length-replicate, get_or-replicate}
use Rattle.bitset.proofs.MachineLaws.{shl_next}
use Rattle.bitset.proofs.UptoLaws.{changed_none, changed_more, changed_end}
use Rattle.circuit.specs.Legs.{full_table}
use Rattle.circuit.proofs.LegsLaws.{full_is, full_out, full_row_lem}
use Rattle.circuit.proofs.table.Table.full.Goals as goal

pub loop-i-init : goal.loop-i-init
loop-i-init c = (λ _. refl, changed_none 64 _ _ (length-replicate {A = ℕ} 64 0))

pub loop-i-preserved : goal.loop-i-preserved
loop-i-preserved c =
    let v = c.loop-i in
    let n = c.min-stations.result in
    let own : v.own ≡ 2 ^ v.i = v.invariant.0 (omega arith) in
    (shl_next 64 v.i v.own own, changed_more _ v.invariant.1 (omega arith) (full_row_lem n v.i _ _ (omega arith) (omega arith) c.full-all.ensures own))

pub returns : goal.returns
returns c =
    let n = c.min-stations in
    changed_end 0 c.loop-i.invariant.1 (λ k g l. get_or-replicate 64 k 0 0 l ∙ sym (full_out n.result k (omega arith))) ∙ full_is _ ∙ ap full_table n.ensures
