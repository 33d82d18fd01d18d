use mathlib.Core.Path.{◌≡◌, ap, ◌∙◌}
use mathlib.Core.Bool.{◌||◌}
use Prim.Native.Nat.{ℕ}
use native.Mathlib.Omega.{arith}
use Rattle.bitset.specs.Sets.{has, set_of}
use Rattle.bitset.specs.Upto.{row}
use Rattle.bitset.proofs.UptoLaws.{changed_none, changed_more, changed_here}
use Rattle.circuit.specs.Legs.{leg}
use Rattle.circuit.proofs.LegsLaws.{word_at}
use Rattle.roads.proofs.StepLaws.{with_all_is, table_end}
use Rattle.roads.proofs.step.obliged.Goals as goal

pub loop-i-init : goal.loop-i-init
loop-i-init c = changed_none 64 _ _ c.requires.1.len

pub loop-i-preserved : goal.loop-i-preserved
unfolding leg
loop-i-preserved c =
    let x = c.args in
    let i : ℕ = c.loop-i.i in
    let h = c.loop-i.invariant in
    let same : row c.loop-i.out i ≡ row x.must i = changed_here 0 h in
    changed_more _ h (omega (arith, c.requires.0))
    (word_at x.n (λ a b. leg x.must a b || leg x.force.now a b) i _ (omega arith)
    (with_all_is x.n (row c.loop-i.out i) (row x.force.now i) _ c.requires.0 c.full-all.ensures (rw same (c.requires.1.square i (omega arith)))
    ∙ ap (λ (w : ℕ). set_of x.n (λ j. has w j || has (row x.force.now i) j)) same))

pub returns : goal.returns
returns c = let x = c.args in table_end x.n x.must _ (λ a b. leg x.must a b || leg x.force.now a b) c.loop-i.i (omega arith) c.requires.1 c.loop-i.invariant
