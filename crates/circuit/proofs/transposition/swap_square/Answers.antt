use Prim.Native.Nat.{ℕ, ◌+◌}
use native.Mathlib.Omega.{arith}
use Rattle.bitset.specs.Upto.{row}
use Rattle.circuit.proofs.ColumnLaws.{low_is, high_is, pairs_more}
use Rattle.circuit.proofs.transposition.swap_square.Goals as goal

pub loop-i-preserved : goal.loop-i-preserved
loop-i-preserved c =
    let v = c.loop-i in
    let s = c in
    let h = s.args.half in
    let mask = s.args.mask in
    let lo : ℕ = row v.words (s.args.at + v.i) in
    let hi : ℕ = row v.words (s.args.at + v.i + h) in
    pairs_more _ _ v.invariant (omega arith) (omega arith) (low_is h mask lo hi s.ranges.mask.fits) (high_is h mask lo hi s.ranges.mask.fits)
