-- `idle::rise` meets its contract. The invariant: what the seed leads to, and what leads to it, among the levels below k (`Rising`). Assumes nothing.
use Rattle.idle.proofs.RisingLaws.{Rising}
use Rattle.idle.proofs.idle.rise.Given as goal

abbrev pub invariant-loop-k : goal.invariant-loop-k
invariant-loop-k l = Rising l.net.rows l.net.cols l.found.level l.seed l.ends l.seen l.ahead l.back l.k
