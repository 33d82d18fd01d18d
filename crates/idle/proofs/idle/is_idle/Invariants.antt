-- `idle::is_idle` meets its contract. The invariant: the levels from k on are told, and the groups have all stations above level k (`Falling`). Assumes nothing.
use Rattle.idle.proofs.FallingLaws.{Falling}
use Rattle.idle.proofs.idle.is_idle.Given as goal

abbrev pub invariant-loop-k : goal.invariant-loop-k
invariant-loop-k l = Falling l.net l.nbr l.limit l.found.level l.found.count l.groups l.k
