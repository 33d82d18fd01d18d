-- `circuit::Work::check_list` meets its contract.

use Rattle.circuit.proofs.state.Work.check_list.Goals as goal

pub returns : goal.returns
returns c = let w = c.args.self in c.check_list_in.ensures w.mark w.end
