-- `report::put_line` meets its contract: four texts, one after another. Assumes nothing.
use native.Mathlib.Omega.{arith}
use mathlib.Core.Path.{ap, ◌∙◌}
use borrow.Author.Rules.{rules}
use lib.ListN.{length}
use mathlib.Core.List.{append_assoc}
use Rattle.report.specs.Lines.{line_of}
use Rattle.report.proofs.LineLaws.{line_length}
use Rattle.writer.proofs.WriterLaws.{appended_as, appended_then, appended_wrote}
use Rattle.report.proofs.put_line.Goals as goal

pub number-requires : goal.number-requires
number-requires c = omega (arith, c.new-out.ensures.len, ap length c.new-out.ensures.bytes, line_length c.args.i c.args.row)

pub byte-requires : goal.byte-requires
byte-requires c = omega (arith, c.new-out.ensures.len, ap length c.new-out.ensures.bytes, line_length c.args.i c.args.row)

pub put_legs-requires : goal.put_legs-requires
put_legs-requires c = omega (arith, c.new-out.ensures.len, ap length c.new-out.ensures.bytes, line_length c.args.i c.args.row)

pub byte-requires-2 : goal.byte-requires-2
byte-requires-2 c = omega (arith, c.new-out.ensures.len, ap length c.new-out.ensures.bytes, line_length c.args.i c.args.row)

pub returns : goal.returns
unfolding line_of
returns c =
    let e = c.new-out.ensures in
    let w =
    appended_wrote e.bytes e.len
    (appended_as {u = line_of c.args.i c.args.row} (simp append_assoc)
    (appended_then (appended_then (appended_then c.number.ensures c.byte.ensures) c.put_legs.ensures) c.byte-2.ensures)) in
    record { count = c.len.ensures ∙ w.count; bytes = (search rules) ∙ w.bytes }
