use mathlib.Core.Bool.{Bool, ◌&&◌}
use Prim.Native.Nat.{ℕ, ◌+◌}
use native.Mathlib.Omega.{arith}
use Rattle.bitset.specs.Upto.{row}
use Rattle.bitset.specs.Sets.{any}
use Rattle.roads.specs.Cut.{split}
use Rattle.roads.specs.inner.Trees.{three, tried}
use Rattle.roads.proofs.MarkLaws.{marked_start, marked_turn, marked_stop, marked_end}
use Rattle.roads.proofs.sums.Search.try_all.Goals.{Start}
use Rattle.roads.proofs.sums.Search.try_all.Goals as goal

-- what is tried at c
abbrev sums_at : Start → ℕ → (ℕ → Bool) → Bool
sums_at v c f = let s = v.args.self.now in any c (λ b. any (b + 1) (λ a. split s.n (three (row s.words.now) c b a) && f (three (row s.words.now) c b a)))

pub loop-c-init : goal.loop-c-init
loop-c-init c = marked_start _ (sums_at (goal.at.loop-c-init c).Start)

pub returns-then-try_second : goal.returns-then-try_second
unfolding tried
returns-then-try_second c = marked_stop (sums_at (goal.at.returns-then-try_second c).Start) c.loop-c.c c.args.self.now.n (omega arith) c.if-try_second.true c.try_second.ensures

pub loop-c-preserved : goal.loop-c-preserved
loop-c-preserved c = marked_turn (sums_at (goal.at.loop-c-preserved c).Start) c.loop-c.c c.loop-c.invariant c.if-try_second.false c.try_second.ensures

pub returns : goal.returns
unfolding tried
returns c = marked_end (sums_at (goal.at.returns c).Start) c.loop-c.c c.args.self.now.n (omega arith) c.loop-c.invariant
