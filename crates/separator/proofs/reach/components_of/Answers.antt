use mathlib.Core.Path.{◌≡◌, refl, sym, ap, ◌∙◌, subst}
use Prim.Native.Nat.{ℕ, ◌+◌, ◌-◌, ◌^◌, ◌<◌}
use native.Mathlib.Omega.{arith}
use lib.Bits.{bit_and, and_le_l}
use lib.Count.{ones, ones-le, count_trailing_zeros}
use lib.ListN.{set, length-set}
use Rattle.bitset.specs.inner.Members.{Least}
use Rattle.bitset.proofs.OnesLaws.{ones_pos}
use Rattle.bitset.proofs.LeastLaws.{trailing_least}
use Rattle.bitset.proofs.MachineLaws.{shl_one}
use Rattle.circuit.specs.Legs.{leg}
use Rattle.separator.specs.Components.{grow}
use Rattle.separator.proofs.PartLaws.{part_takes, Listing, listing_start, listing_turn, listing_end}
use Rattle.separator.proofs.reach.components_of.Goals.{After-grown-c, In-loop-rest}
use Rattle.separator.proofs.reach.components_of.Goals as goal

low : (c : In-loop-rest) → Least 64 c.loop-rest.rest (count_trailing_zeros 64 c.loop-rest.rest)
low c = trailing_least 64 c.loop-rest.rest (omega arith) c.loop-rest.invariant.1

-- there is room for one more component
free : (c : In-loop-rest) → c.loop-rest.count < 64
free c = let l = c.loop-rest in
    omega (arith, l.invariant.2, ones_pos l.rest (omega arith))

pub loop-rest-init : goal.loop-rest-init
loop-rest-init c =
    let fits = c.ranges.outside.fits in
    (refl, fits, omega (arith, ones-le 64 c.args.outside fits), λ d. listing_start 64 (leg c.args.nbr.now) c.args.outside fits)

-- the component is grown in the rest from its least station
grown : (c : After-grown-c) → let l = c.loop-rest in
    c.grown-c.result ≡ grow 64 64 (leg c.args.nbr.now) l.rest (2 ^ count_trailing_zeros 64 l.rest)
grown c = let low : Least 64 c.loop-rest.rest (count_trailing_zeros 64 c.loop-rest.rest) = trailing_least 64 c.loop-rest.rest (omega arith) c.loop-rest.invariant.1 in
    let l = c.loop-rest in
    c.grown-c.ensures ∙ ap (grow 64 64 (leg c.args.nbr.now) l.rest) (shl_one 64 (count_trailing_zeros 64 l.rest) low.below)

pub bounds-part-count : goal.bounds-part-count
bounds-part-count c = free (goal.at.bounds-part-count c).In-loop-rest

-- it takes a station of `rest`
less : (c : After-grown-c) → ones (bit_and c.loop-rest.rest ((2 ^ 64 - 1) - c.grown-c.result)) < ones c.loop-rest.rest
less c = let l = c.loop-rest in
    subst (λ (w : ℕ). ones (bit_and l.rest ((2 ^ 64 - 1) - w)) < ones l.rest) (sym (grown c))
    (part_takes 64 64 (leg c.args.nbr.now) l.rest l.rest (omega arith) l.invariant.1 (omega arith))

pub loop-rest-smaller : goal.loop-rest-smaller
loop-rest-smaller c = less (goal.at.loop-rest-smaller c).After-grown-c

pub loop-rest-preserved : goal.loop-rest-preserved
loop-rest-preserved c =
    let l = c.loop-rest in
    let a = c.args in
    let r : ℕ = c.grown-c.result in (
      length-set l.part l.count _ ∙ l.invariant.0,
      omega (arith, and_le_l l.rest ((2 ^ 64 - 1) - r), l.invariant.1),
      omega (arith, less (goal.at.loop-rest-preserved c).After-grown-c, l.invariant.2),
      λ d.
          subst (λ (w : ℕ). Listing 64 (leg a.nbr.now) a.outside (set l.part l.count w) (l.count + 1) (bit_and l.rest ((2 ^ 64 - 1) - w))) (sym (grown (goal.at.loop-rest-preserved c).After-grown-c))
          (listing_turn 64 (leg a.nbr.now) a.outside (l.invariant.3 d) (omega arith) (omega arith) d),
    )

pub returns : goal.returns
returns c =
    let l = c.loop-rest in
    let a = c.args in
    λ d. listing_end 64 (leg a.nbr.now) a.outside (l.invariant.3 d) (omega arith) c.loop-rest-test.false
