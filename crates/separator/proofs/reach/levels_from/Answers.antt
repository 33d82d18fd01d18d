use borrow.Author.Rules.{rules}
use mathlib.Core.Path.{refl, sym, ap, ◌∙◌, subst}
use Prim.Native.Nat.{ℕ, ◌-◌, ◌^◌, ◌<◌}
use native.Mathlib.Omega.{arith}
use lib.Bits.{bit_and, and_le_l, or_lt}
use lib.Count.{ones-le}
use lib.ListN.{replicate, length-set}
use lib.Pow.{pow-lt}
use Rattle.bitset.proofs.OnesLaws.{ones_pos, ones_join}
use Rattle.bitset.proofs.SetLaws.{diff_set_of}
use Rattle.bitset.proofs.MachineLaws.{shl_one, minus_of, full_without}
use Rattle.separator.specs.Levels.{neighbourhood}
use Rattle.separator.proofs.NeighbourLaws.{neighbourhood_lt}
use Rattle.separator.proofs.LevelsLaws.{finding_start, finding_turn, finding_end, finding_missed}
use Rattle.separator.proofs.reach.levels_from.Invariants.{Inv}
use Rattle.separator.proofs.reach.levels_from.Goals.{In-loop-last}
use Rattle.separator.proofs.reach.levels_from.Goals as goal

-- there is room for one more level
free : (c : In-loop-last) → c.loop-last.count < 64
free c = let l = c.loop-last in
    omega (arith, l.invariant.2, ones_pos l.last (omega arith), ones-le 64 l.seen l.invariant.1)

pub loop-last-init : goal.loop-last-init
loop-last-init c =
    let a = c.args in
    let low : a.seed < 64 = omega (arith, c.requires.0, c.requires.1) in
    subst (λ (x : ℕ). Inv a.nbr.now a.n a.seed (replicate 64 0) 0 x x) (sym (shl_one 64 a.seed low))
    (refl, pow-lt low, omega arith, λ t d. finding_start a.n t a.seed c.requires.1)

pub bounds-level-count : goal.bounds-level-count
bounds-level-count c = free c

pub loop-last-smaller : goal.loop-last-smaller
loop-last-smaller c = omega (arith, free (goal.at.loop-last-smaller c).In-loop-last)

pub loop-last-preserved : goal.loop-last-preserved
loop-last-preserved c =
    let l = c.loop-last in
    let r : ℕ = c.neighbourhood.result in
    let v : ℕ = bit_and r ((2 ^ 64 - 1) - l.seen) in
    let more = ones_pos l.last (omega arith) in (
      length-set l.level l.count _ ∙ l.invariant.0,
      or_lt 64 l.seen v l.invariant.1 (omega (arith, and_le_l r ((2 ^ 64 - 1) - l.seen), c.neighbourhood.type_inv)),
      omega (arith, ones_join 64 l.seen r l.invariant.1, more, l.invariant.2),
      λ t d.
          let n : ℕ = c.args.n in
          let f = l.invariant.3 t d in
          let g = f.reaching in
          finding_turn n t c.args.seed c.requires.1 f v (omega arith) (omega (arith, ones-le n l.seen g.below, l.invariant.2, more)) d.most
          (ap (λ (x : ℕ). bit_and x ((2 ^ 64 - 1) - l.seen)) (c.neighbourhood.ensures n t d g.small)
          ∙ minus_of d.most (neighbourhood n t l.last) l.seen (neighbourhood_lt n t l.last) l.invariant.1),
    )

pub returns : goal.returns
returns c =
    let l = c.loop-last in
    let z = c.loop-last-test.false in
    λ t d.
    let f = l.invariant.3 t d in
    record {
      listed = finding_end c.args.n t c.args.seed c.requires.1 f z (omega (arith, ones-le 64 l.seen l.invariant.1, l.invariant.2));
      unreached =
          full_without c.requires.0 l.seen _ _ (search rules) (diff_set_of 64 _ l.seen (search rules) l.invariant.1)
          ∙ finding_missed c.args.n t c.args.seed c.requires.1 f z;
    }
