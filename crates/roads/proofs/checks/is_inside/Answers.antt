use borrow.Author.Rules.{rules}
use mir.Val.{Fits}
use mir.Syntax.{w64}
use mathlib.Core.Path.{◌≡◌, refl, sym, ap, ap₂, ◌∙◌}
use mathlib.Core.Bool.{Bool, not, ◌&&◌, ◌||◌}
use Prim.Native.Nat.{ℕ}
use native.Mathlib.Omega.{arith}
use Rattle.circuit.specs.Legs.{leg}
use Rattle.bitset.specs.Sets.{all}
use Rattle.bitset.specs.Upto.{row}
use Rattle.roads.specs.Cut.{inside}
use Rattle.bitset.proofs.QuantLaws.{all_next}
use Rattle.roads.proofs.CheckLaws.{part_all}
use Rattle.roads.proofs.checks.is_inside.Goals as goal

pub loop-i-init : goal.loop-i-init
unfolding all
loop-i-init c = refl

pub loop-i-preserved : goal.loop-i-preserved
unfolding leg
loop-i-preserved c =
    let a = c.args in
    let i : ℕ = c.loop-i.i in
    let fits_must : Fits w64 (row a.must.now i) = search rules in
    let fits_rows : Fits w64 (row a.rows.now i) = search rules in
    ap₂ (λ (x y : Bool). x && y) c.loop-i.invariant (part_all (row a.must.now i) (row a.rows.now i) fits_must.fits fits_rows.fits)
    ∙ sym (all_next i (λ k. all 64 (λ j. not (leg a.must.now k j) || leg a.rows.now k j)))

pub returns : goal.returns
unfolding inside
returns c =
    let a = c.args in
    let e : c.loop-i.i ≡ 64 = omega arith in
    c.loop-i.invariant ∙ ap (λ (m : ℕ). all m (λ k. all 64 (λ j. not (leg a.must.now k j) || leg a.rows.now k j))) e
