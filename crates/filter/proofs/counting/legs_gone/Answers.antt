use mathlib.Core.Path.{◌≡◌, refl}
use Prim.Native.Nat.{ℕ, ◌-◌, ◌^◌, ◌<◌}
use native.Mathlib.Numerals.{add-one}
use native.Mathlib.Omega.{arith}
use lib.Bits.{bit_and, and_le_l}
use lib.Count.{ones-le}
use Rattle.bitset.specs.Sets.{sum}
use Rattle.bitset.specs.Upto.{row}
use Rattle.bitset.proofs.OnesLaws.{size_ones, ones_within}
use Rattle.circuit.specs.Legs.{leg, legs}
use Rattle.filter.proofs.counting.legs_gone.Goals as goal

pub loop-i-init : goal.loop-i-init
unfolding sum
loop-i-init c = (refl, omega arith)

pub loop-i-preserved : goal.loop-i-preserved
unfolding sum leg
loop-i-preserved c =
    let v = c.loop-i in
    let n : ℕ = c.args.n in
    let b : ℕ = row c.args.before.now v.i in
    let a : ℕ = row c.args.after.now v.i in
    let a_fits : a < 2 ^ 64 = omega arith in
    let b_fits : b < 2 ^ 64 = omega arith in
    let went = ones_within 64 a b a_fits b_fits (λ k _ e. c.requires.3 v.i k e) in
    let few = ones-le 64 (bit_and b (18446744073709551615 - a)) (omega (arith, and_le_l b (18446744073709551615 - a), b_fits)) in
    let had = size_ones n b (c.requires.1 v.i c.loop-i-test.true) in
    let has = size_ones n a (c.requires.2 v.i c.loop-i-test.true) in
    (rw add-one (omega (arith, went, had, has, v.invariant.0)), omega (arith, few, v.invariant.1))

pub returns : goal.returns
unfolding legs
returns c =
    let v = c.loop-i in
    let e : v.i ≡ c.args.n = omega arith in
    let all = rw e at v.invariant.0 in
    omega (arith, all)
