use mathlib.Core.Path.{◌≡◌, ap, ◌∙◌}
use mathlib.Core.Bool.{◌&&◌, ◌||◌, xor}
use Prim.Native.Nat.{ℕ}
use native.Mathlib.Omega.{arith}
use lib.Bits.{and_le_l, or_lt}
use Rattle.bitset.specs.Upto.{row}
use Rattle.bitset.specs.Sets.{has}
use Rattle.bitset.proofs.SetLaws.{eq_set_of, has_set_of}
use Rattle.bitset.proofs.UptoLaws.{changed_none, changed_here, changed_more, changed_front}
use Rattle.circuit.specs.Legs.{leg}
use Rattle.roads.proofs.MarkLaws.{mark_row}
use Rattle.roads.proofs.marking.mark.Goals as goal

pub loop-i-init : goal.loop-i-init
loop-i-init c = changed_none 64 _ _ c.told-table

pub loop-i-preserved : goal.loop-i-preserved
unfolding leg
loop-i-preserved c = let a = c.args in
    let i : ℕ = c.loop-i.i in
    let h = c.loop-i.invariant in
    let old : ℕ = row c.loop-i.table i in
    let same : old ≡ row a.table.now i = changed_here 0 h in
    changed_more _ h (omega (arith, c.requires))
    (eq_set_of 64 _ _ (or_lt 64 old _ (omega (arith, same, c.fits-table i)) (omega (arith, and_le_l (row a.roads.now i) c.parted.result, c.fits-roads i)))
    (λ b l. mark_row old (row a.roads.now i) c.parted.result b _ (c.parted.ensures b l)
    ∙ ap (λ (w : ℕ). has w b || (xor (has a.x i) (has a.x b) && has (row a.roads.now i) b)) same))

pub returns : goal.returns
unfolding leg
returns c =
    let h = c.loop-i.invariant in
    λ i j li lj. ap (λ (w : ℕ). has w j) (changed_front 0 h i (omega arith)) ∙ has_set_of 64 _ j lj
