use mathlib.Core.Path.{◌≡◌, sym, ap, ◌∙◌}
use mathlib.Core.Bool.{cond}
use Prim.Native.Nat.{ℕ, ◌^◌}
use native.Mathlib.Omega.{arith}
use lib.Bits.{bit_or}
use Rattle.bitset.specs.Upto.{row}
use Rattle.bitset.specs.Sets.{has}
use Rattle.bitset.proofs.BoolLaws.{cond_true, cond_false}
use Rattle.bitset.proofs.MachineLaws.{pow_set_of}
use Rattle.bitset.proofs.UptoLaws.{changed_none, changed_here, changed_more}
use Rattle.roads.proofs.GrowLaws.{joins_of}
use Rattle.roads.proofs.tree.join.Goals.{then-contains, else-contains, After-singleton-new}
use Rattle.roads.proofs.tree.join.Goals as goal

pub loop-i-init : goal.loop-i-init
loop-i-init c = changed_none 64 _ _ c.told-words

new_is : (c : After-singleton-new) → c.singleton-new.result ≡ 2 ^ c.args.u
new_is c = c.singleton-new.ensures ∙ sym (pow_set_of 64 c.args.u c.requires.2)

pub loop-i-preserved : goal.loop-i-preserved
loop-i-preserved c = let a = c.args in
    let h = c.loop-i.invariant in
    let old : ℕ = row c.loop-i.words c.loop-i.i in
    let same = ap (λ (w : ℕ). cond (has w a.p) (bit_or w (2 ^ a.u)) w) (changed_here 0 h) in
    elim c.if-contains.branch [
      | then-contains w ↦ rw w.words-is (changed_more _ h (omega (arith, c.requires.0))
          (ap (bit_or old) (new_is (goal.at.loop-i-preserved c).After-singleton-new)
          ∙ sym (cond_true (bit_or old (2 ^ a.u)) old (sym c.contains.ensures ∙ w.if-contains.true)) ∙ same))
      | else-contains w ↦ rw w.words-is (changed_more _ h (omega (arith, c.requires.0)) (sym (cond_false (bit_or old (2 ^ a.u)) old (sym c.contains.ensures ∙ w.if-contains.false)) ∙ same))
    ]

pub returns : goal.returns
returns c = let a = c.args in
    let h = c.loop-i.invariant in
    let e : c.loop-i.i ≡ a.count = omega arith in
    joins_of a.count a.p a.u a.words.now c.loop-i.words _ c.requires.0 (new_is (goal.at.returns c).After-singleton-new) (rw e at h)
