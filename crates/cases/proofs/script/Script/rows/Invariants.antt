use Rattle.std.proofs.Common.{◌≤◌, length}
use Rattle.cases.proofs.script.Script.rows.Given as goal

abbrev pub invariant-loop-row : goal.invariant-loop-row
invariant-loop-row l = length l.self.rest.now ≤ length l.fn.self.rest.now
