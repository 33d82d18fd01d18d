use mathlib.Core.Bool.{Bool, ◌&&◌}
use Prim.Native.Nat.{ℕ, ◌+◌}
use native.Mathlib.Omega.{arith}
use lib.Bits.{bit_xor, xor_lt}
use Rattle.bitset.specs.Upto.{row}
use Rattle.roads.specs.Cut.{split}
use Rattle.roads.proofs.MarkLaws.{marked_start, marked_turn, marked_stop, marked_end}
use Rattle.roads.proofs.sums.Search.try_third.Goals.{Start}
use Rattle.roads.proofs.sums.Search.try_third.Goals as goal

-- what is tried at k
abbrev sum_at : Start → ℕ → (ℕ → Bool) → Bool
sum_at c k f = let s = c.args.self.now in split s.n (bit_xor c.args.y (row s.words.now k)) && f (bit_xor c.args.y (row s.words.now k))

pub loop-a-init : goal.loop-a-init
loop-a-init c = marked_start _ (sum_at (goal.at.loop-a-init c).Start)

pub judge-requires : goal.judge-requires
judge-requires c = let s = c.args.self.now in xor_lt s.n c.args.y _ c.requires.1 (s.small _ (omega (arith, c.requires.0)))

pub returns-then-judge : goal.returns-then-judge
returns-then-judge c = marked_stop (sum_at (goal.at.returns-then-judge c).Start) c.loop-a.a (c.args.b + 1) (omega arith) c.if-judge.true c.judge.ensures

pub loop-a-preserved : goal.loop-a-preserved
loop-a-preserved c = marked_turn (sum_at (goal.at.loop-a-preserved c).Start) c.loop-a.a c.loop-a.invariant c.if-judge.false c.judge.ensures

pub returns : goal.returns
returns c = marked_end (sum_at (goal.at.returns c).Start) c.loop-a.a (c.args.b + 1) (omega arith) c.loop-a.invariant
