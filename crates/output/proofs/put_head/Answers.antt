-- `output::put_head` meets its contract. Assumes nothing.
use borrow.Author.Rules.{rules}
use mathlib.Core.Path.{ap, ◌∙◌}
use native.Mathlib.Omega.{arith}
use lib.ListN.{length}
use Rattle.writer.proofs.WriterLaws.{appended_wrote}
use Rattle.output.proofs.put_head.Goals as goal

pub text-requires : goal.text-requires
text-requires c = let e = c.new-out.ensures in omega (arith, c.requires, e.len, ap length e.bytes)

pub returns : goal.returns
returns c =
    let e = c.new-out.ensures in
    let w = appended_wrote e.bytes e.len c.text.ensures in
    record { count = c.len.ensures ∙ w.count; bytes = (search rules) ∙ w.bytes }
