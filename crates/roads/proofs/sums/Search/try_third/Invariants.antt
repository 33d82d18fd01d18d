-- `roads::Search::try_third` meets its contract. The invariant: the sums with the words before a are tried. Assumes nothing.
use mathlib.Core.Bool.{false, ◌&&◌}
use lib.Bits.{bit_xor}
use Rattle.bitset.specs.Upto.{row}
use Rattle.bitset.specs.Sets.{any}
use Rattle.roads.specs.Cut.{split}
use Rattle.roads.specs.inner.Promises.{Marked}
use Rattle.roads.proofs.sums.Search.try_third.Given as goal

abbrev pub invariant-loop-a : goal.invariant-loop-a
invariant-loop-a l =
    let s = l.self in
    Marked s.n s.rows.now s.must.now l.initial.marks false l.marks (λ f. any l.a (λ k. split s.n (bit_xor l.y (row s.words.now k)) && f (bit_xor l.y (row s.words.now k))))
