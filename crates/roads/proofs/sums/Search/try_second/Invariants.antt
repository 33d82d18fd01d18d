-- `roads::Search::try_second` meets its contract. The invariant: the sums with the words before b are tried. Assumes nothing.
use mathlib.Core.Bool.{false, ◌&&◌}
use Prim.Native.Nat.{◌+◌}
use Rattle.bitset.specs.Upto.{row}
use Rattle.bitset.specs.Sets.{any}
use Rattle.roads.specs.Cut.{split}
use Rattle.roads.specs.inner.Trees.{three}
use Rattle.roads.specs.inner.Promises.{Marked}
use Rattle.roads.proofs.sums.Search.try_second.Given as goal

abbrev pub invariant-loop-b : goal.invariant-loop-b
invariant-loop-b l =
    let s = l.self in
    Marked s.n s.rows.now s.must.now l.initial.marks false l.marks (λ f. any l.b (λ b'. any (b' + 1) (λ a. split s.n (three (row s.words.now) l.c b' a) && f (three (row s.words.now) l.c b' a))))
