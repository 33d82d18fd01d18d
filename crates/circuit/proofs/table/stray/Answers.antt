-- `circuit::stray` meets its contract.
use Rattle.circuit.specs.State.{stray}
use Rattle.circuit.proofs.table.stray.Goals as goal

pub returns : goal.returns
unfolding stray
returns c = c.stray_beyond.ensures
