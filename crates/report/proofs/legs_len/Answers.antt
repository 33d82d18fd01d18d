-- `report::legs_len` meets its contract: a word has at most 64 ones, so the sum fits. Assumes nothing.
use mathlib.Core.Path.{sym}
use Prim.Native.Nat.{ℕ, ◌≤◌}
use native.Mathlib.Omega.{arith}
use lib.Bits.{bit_and, and_le_l}
use lib.Count.{ones, ones-le}
use Rattle.report.proofs.LegLaws.{legs_length}
use Rattle.report.proofs.legs_len.Goals.{Start}
use Rattle.report.proofs.legs_len.Goals as goal

-- !511
abbrev wide : ℕ
wide = 18446744073709551104

few : (c : Start) → (ones c.args.row ≤ 64) × (ones (bit_and c.args.row wide) ≤ 64)
few c = let row : ℕ = c.args.row in
    (ones-le 64 row c.ranges.row.fits, ones-le 64 (bit_and row wide) (omega (arith, and_le_l row wide, c.ranges.row.fits)))

pub overflow_mul-result : goal.overflow_mul-result
overflow_mul-result c = omega (arith, few c)

pub overflow_add-result : goal.overflow_add-result
overflow_add-result c = omega (arith, few c)

pub overflow_cast-result : goal.overflow_cast-result
overflow_cast-result c = omega (arith, few c)

pub returns : goal.returns
returns c = (sym (legs_length c.args.row c.ranges.row.fits), omega (arith, few c))
