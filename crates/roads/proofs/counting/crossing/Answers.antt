use mathlib.Core.Path.{◌≡◌, ap, ◌∙◌}
use Prim.Native.Nat.{ℕ, ◌+◌, ◌-◌}
use native.Mathlib.Omega.{arith}
use lib.Bits.{bit_and, and_le_l}
use lib.Count.{ones, ones-le}
use Rattle.bitset.specs.Sets.{sum}
use Rattle.bitset.specs.Upto.{row}
use Rattle.bitset.specs.declared.Members.{Members}
use Rattle.roads.specs.inner.Promises.{part_in}
use Rattle.roads.proofs.CountLaws.{sum_left, sum_least}
use Rattle.roads.proofs.counting.crossing.Goals.{In-Some}
use Rattle.roads.proofs.counting.crossing.Goals as goal

pub loop-i-init : goal.loop-i-init
loop-i-init c =
    let same = ap (λ (m : Members). m.rest) c.into_iter-i-iterator.ensures.into_iter_gives ∙ c.of-i-items.ensures in
    let e = ap (λ (s : ℕ). sum 64 (part_in c.args.rows.now c.args.x s)) same in
    (omega (arith, same), omega (arith, e), omega arith)

-- the roads that leave x from the least member are counted
turn : (c : In-Some) → (c.loop-i.k + ones (bit_and (row c.args.rows.now c.in-Some.i) (18446744073709551615 - c.args.x))) + sum 64 (part_in c.args.rows.now c.args.x c.next.new.self.rest)
    ≡ sum 64 (part_in c.args.rows.now c.args.x c.args.x)
turn c = let v = c.loop-i.invariant in
    let e = sum_least c.in-Some.ensures.steps v.0 c.args.rows.now c.args.x in
    omega (arith, e, v.1)

pub overflow_add-k : goal.overflow_add-k
overflow_add-k c = let legs : ℕ = row c.args.rows.now c.in-Some.i in
    let out : ℕ = bit_and legs (18446744073709551615 - c.args.x) in
    record { fits = omega (arith, c.loop-i.invariant.2, ones-le 64 out (omega (arith, and_le_l legs (18446744073709551615 - c.args.x), c.fits-rows c.in-Some.i))) }

pub returns-then-k-gt3 : goal.returns-then-k-gt3
returns-then-k-gt3 c = omega (arith, turn (goal.at.returns-then-k-gt3 c).In-Some)

pub loop-i-preserved : goal.loop-i-preserved
loop-i-preserved c = let step = c.in-Some.ensures.steps in
    (omega (arith, step.others, and_le_l c.loop-i.i-iterator.rest (c.loop-i.i-iterator.rest - 1)), turn (goal.at.loop-i-preserved c).In-Some, omega arith)

pub returns : goal.returns
returns c = let v = c.loop-i.invariant in
    let e = ap (λ (s : ℕ). sum 64 (part_in c.args.rows.now c.args.x s)) c.in-None.ensures.steps.0 ∙ sum_left c.args.rows.now c.args.x in
    (omega (arith, e, v.1), v.2)
