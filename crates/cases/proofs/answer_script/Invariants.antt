-- A command takes its opcode at least.
use Rattle.std.proofs.Common.{length}
use Rattle.cases.proofs.answer_script.Given as goal

abbrev pub decreases-loop-opcode : goal.decreases-loop-opcode
decreases-loop-opcode g l = length l.script.rest.now
