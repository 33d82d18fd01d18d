use Rattle.circuit.proofs.ColumnLaws.{squares_more}
use Rattle.circuit.proofs.transposition.swap_quarters.Goals.{In-loop-p}
use Rattle.circuit.proofs.transposition.swap_quarters.Goals as goal

pub loop-p-preserved : goal.loop-p-preserved
loop-p-preserved c = squares_more c.loop-p.invariant c.swap_square.ensures
