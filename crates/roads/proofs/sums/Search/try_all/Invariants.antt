-- `roads::Search::try_all` meets its contract. The invariant: the sums with the words before c are tried. Assumes nothing.
use mathlib.Core.Bool.{false, ◌&&◌}
use Prim.Native.Nat.{◌+◌}
use Rattle.bitset.specs.Upto.{row}
use Rattle.bitset.specs.Sets.{any}
use Rattle.roads.specs.Cut.{split}
use Rattle.roads.specs.inner.Trees.{three}
use Rattle.roads.specs.inner.Promises.{Marked}
use Rattle.roads.proofs.sums.Search.try_all.Given as goal

abbrev pub invariant-loop-c : goal.invariant-loop-c
invariant-loop-c l =
    let s = l.self in
    Marked s.n s.rows.now s.must.now l.initial.marks false l.marks (λ f. any l.c (λ c'. any c' (λ b. any (b + 1) (λ a. split s.n (three (row s.words.now) c' b a) && f (three (row s.words.now) c' b a)))))
