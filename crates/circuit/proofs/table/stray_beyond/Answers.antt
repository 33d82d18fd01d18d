use native.Mathlib.Omega.{arith}
use Rattle.circuit.proofs.StrayLaws.{tells_more, beyond_row}
use Rattle.circuit.proofs.table.stray_beyond.Goals as goal

pub loop-i-preserved : goal.loop-i-preserved
loop-i-preserved c =
    let v = c.loop-i in
    let a = c.args in
    tells_more a.n a.rows.now v.i v.found _ v.invariant (beyond_row a.n v.i _ (omega arith))
