use mathlib.Core.Path.{refl}
use native.Mathlib.Numerals.{add-one}
use native.Mathlib.Omega.{arith}
use Rattle.bitset.specs.Sets.{sum}
use Rattle.std.proofs.Common.{rules, ◌≤◌}
use lib.Count.{ones}
use Rattle.bitset.specs.Upto.{row}
use Rattle.circuit.proofs.table.set_bits.Goals as goal

pub loop-i-init : goal.loop-i-init
unfolding sum
loop-i-init c = (refl, omega arith)

pub loop-i-preserved : goal.loop-i-preserved
unfolding sum
loop-i-preserved c =
    let b : ones (row c.args.rows.now c.loop-i.i) ≤ 64 = search rules in
    (rw (add-one, c.loop-i.invariant.0), omega arith)
