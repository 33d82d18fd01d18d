use mathlib.Core.Bool.{Bool, ◌&&◌}
use Prim.Native.Nat.{ℕ, ◌+◌}
use native.Mathlib.Omega.{arith}
use lib.Bits.{xor_lt}
use Rattle.bitset.specs.Upto.{row}
use Rattle.bitset.specs.Sets.{any}
use Rattle.roads.specs.Cut.{split}
use Rattle.roads.specs.inner.Trees.{three}
use Rattle.roads.proofs.MarkLaws.{marked_start, marked_turn, marked_stop, marked_end}
use Rattle.roads.proofs.sums.Search.try_second.Goals.{Start}
use Rattle.roads.proofs.sums.Search.try_second.Goals as goal

-- what is tried at b
abbrev sums_at : Start → ℕ → (ℕ → Bool) → Bool
sums_at c b f = let s = c.args.self.now in any (b + 1) (λ a. split s.n (three (row s.words.now) c.args.c b a) && f (three (row s.words.now) c.args.c b a))

pub loop-b-init : goal.loop-b-init
loop-b-init c = marked_start _ (sums_at (goal.at.loop-b-init c).Start)

pub try_third-requires : goal.try_third-requires
try_third-requires c = let s = c.args.self.now in (omega (arith, c.requires), xor_lt s.n _ _ (s.small _ c.requires) (s.small _ (omega (arith, c.requires))))

pub returns-then-try_third : goal.returns-then-try_third
unfolding three
returns-then-try_third c = marked_stop (sums_at (goal.at.returns-then-try_third c).Start) c.loop-b.b c.args.c (omega arith) c.if-try_third.true c.try_third.ensures

pub loop-b-preserved : goal.loop-b-preserved
unfolding three
loop-b-preserved c = marked_turn (sums_at (goal.at.loop-b-preserved c).Start) c.loop-b.b c.loop-b.invariant c.if-try_third.false c.try_third.ensures

pub returns : goal.returns
returns c = marked_end (sums_at (goal.at.returns c).Start) c.loop-b.b c.args.c (omega arith) c.loop-b.invariant
