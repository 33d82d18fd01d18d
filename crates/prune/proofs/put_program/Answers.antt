-- No text is longer than the buffer, so the call is a writer of all of it.
use Rattle.std.proofs.Common.{arith}
use Rattle.circuit.proofs.FillLaws.{fills_wrote}
use Rattle.output.specs.Program.{program_text}
use Rattle.output.proofs.SizeLaws.{program_most_lem}
use Rattle.prune.proofs.put_program.Goals as goal

pub returns : goal.returns
returns c =
    let few = program_most_lem c.args.sheet.now in
    let wrote = fills_wrote (program_text c.args.sheet.now) c.args.buf.now _ _ (omega arith) c.print.ensures.0 c.print.ensures.1 in
    (wrote, omega (arith, wrote.count))
