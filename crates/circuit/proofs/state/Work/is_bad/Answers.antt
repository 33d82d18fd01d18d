-- `circuit::Work::is_bad` meets its contract.

use Rattle.circuit.proofs.state.Work.is_bad.Goals as goal

pub returns : goal.returns
returns c = let w = c.args.self in c.is_bad_state.ensures w.mark w.end
