use mathlib.Core.Path.{refl, sym, ap, ◌∙◌, ◌≡◌}
use mathlib.Core.Bool.{Bool, ◌&&◌}
use mathlib.Core.List.{List}
use Prim.Native.Nat.{ℕ}
use native.Mathlib.Omega.{arith}
use lib.Dec.{eqb}
use Rattle.bitset.specs.Upto.{row}
use Rattle.bitset.specs.Sets.{all}
use Rattle.bitset.proofs.QuantLaws.{all_next}
use Rattle.roads.proofs.CheckLaws.{mirrored_columns}
use Rattle.roads.proofs.checks.is_mirrored.Goals as goal

pub loop-i-init : goal.loop-i-init
unfolding all
loop-i-init c = refl

pub loop-i-preserved : goal.loop-i-preserved
loop-i-preserved c =
    let same : ℕ → Bool = λ k. eqb (row c.args.rows.now k) (row c.columns-cols.result k) in
    ap (λ (b : Bool). b && same c.loop-i.i) c.loop-i.invariant ∙ sym (all_next c.loop-i.i same)

pub returns : goal.returns
returns c =
    let rows : List ℕ = c.args.rows.now in
    let e : c.loop-i.i ≡ c.args.n = omega arith in
    c.loop-i.invariant
    ∙ ap (λ (m : ℕ). all m (λ k. eqb (row rows k) (row c.columns-cols.result k))) e
    ∙ ap (λ (cols : List ℕ). all c.args.n (λ k. eqb (row rows k) (row cols k))) c.columns-cols.ensures
    ∙ mirrored_columns c.args.n rows c.requires.0 c.requires.1
