use mathlib.Core.Path.{◌≡◌, ap, ◌∙◌}
use Prim.Native.Nat.{ℕ, pred, ◌-◌, ◌<◌}
use native.Mathlib.Nat.{lt_of_lt_of_le}
use native.Mathlib.Omega.{arith}
use Rattle.bitset.specs.Sets.{set_of}
use Rattle.bitset.specs.declared.Members.{Members}
use Rattle.filter.specs.Chain.{nexts, joined}
use Rattle.filter.proofs.FindLaws.{finding_start, finding_low, finding_turn, found_closing, found_met}
use Rattle.filter.proofs.chaining.find_chains.Invariants.{ways}
use Rattle.filter.proofs.chaining.find_chains.Goals.{In-Some}
use Rattle.filter.proofs.chaining.find_chains.Goals as goal

-- the station is one of the n
low : (c : In-Some) → c.in-Some.b < c.args.n
low c = finding_low _ _ _ _ c.requires.1 _ _ _ _ _ c.in-Some.ensures.steps c.loop-b.invariant

pub loop-b-init : goal.loop-b-init
loop-b-init c =
    let same = ap (λ (m : Members). m.rest) c.into_iter-b-iterator.ensures.into_iter_gives ∙ c.of-b-items.ensures in
    rw same (finding_start _ _ _ _ c.requires.1 _ c.told-closing c.requires.2)

pub joined_from-chain-requires : goal.joined_from-chain-requires
joined_from-chain-requires c = lt_of_lt_of_le (low c) c.requires.1

pub loop-b-preserved : goal.loop-b-preserved
loop-b-preserved c =
    let v = c.loop-b in
    let n = c.args.n in
    let prev = c.args.prev.now in
    let most : n - 2 ≡ pred (pred n) = omega arith in
    finding_turn n (ways n prev) _ _ c.requires.1 _ _ _ _ _ c.in-Some.ensures.steps v.invariant c.joined_from-chain.result c.ranges.into.fits
    (c.joined_from-chain.ensures n c.requires.1 (low (goal.at.loop-b-preserved c).In-Some) c.requires.3 ∙ ap (λ (f : ℕ). set_of n (joined n (nexts n prev) f c.in-Some.b)) most)

pub returns : goal.returns
returns c =
    let v = c.loop-b in
    let none = c.in-None.ensures.steps.0 in
    record { closing = found_closing _ _ _ _ c.requires.1 _ _ _ v.invariant none; met = found_met _ _ _ _ c.requires.1 _ _ _ v.invariant none }
