-- `bitset::insert_if` meets its contract. Assumes nothing.
use native.Mathlib.Omega.{arith}
use Rattle.bitset.proofs.MachineLaws.{insert_more, insert_same}
use Rattle.bitset.proofs.insert_if.Goals as goal

pub returns-then-w-ne0 : goal.returns-then-w-ne0
returns-then-w-ne0 c = let s = c in insert_more s.args.set s.args.k s.args.w s.ranges.set.fits (omega arith) (omega arith)

pub returns-else-w-ne0 : goal.returns-else-w-ne0
returns-else-w-ne0 c = let s = c in insert_same s.args.set s.args.k s.args.w s.ranges.set.fits (omega arith)
