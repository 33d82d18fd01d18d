-- `roads::Marks::clash` meets its contract. Assumes nothing.
use borrow.Author.Rules.{rules}
use borrow.Author.Tests.{tests}
use mathlib.Core.Path.{◌≡◌, refl, ◌∙◌}
use mathlib.Core.Bool.{Bool, not, ◌&&◌}
use mathlib.Core.List.{List}
use Prim.Native.Nat.{ℕ}
use native.Mathlib.Nat.{sub-zero}
use lib.Bits.{bit_and}
use lib.Dec.{eqb}
use Rattle.std.proofs.lemmas.Iterator.{YieldsList-from_range}
use Rattle.std.proofs.lemmas.Iterator.Search.{any_from_yields_List}
use Rattle.circuit.specs.Legs.{leg}
use Rattle.bitset.specs.Sets.{has, any}
use Rattle.bitset.specs.Upto.{row}
use Rattle.roads.proofs.RangeLaws.{any_range}
use Rattle.roads.proofs.StepLaws.{meets_any}
use Rattle.roads.proofs.marking.Marks.clash.Goals as goal

pub returns : goal.returns
unfolding leg
returns c = let n : ℕ = c.args.n in
    let f : List ℕ = c.args.self.now.force in
    let d : List ℕ = c.args.self.now.drop in
    let all : ℕ = c.full-all.result in
    let meets : ℕ → Bool = λ i. any n (λ j. has (row f i) j && has (row d i) j) in
    any_from_yields_List meets _ _ _ c.any.ensures.ran (YieldsList-from_range 0 n n refl (sub-zero n))
    (λ x b q k. let r : (q ≡ _) × (b ≡ not (eqb (bit_and (bit_and (row f x) (row d x)) all) 0)) = search (rules, tests) in
    (r.0, r.1 ∙ meets_any n (row f x) (row d x) all c.requires c.full-all.ensures))
    ∙ any_range meets n
