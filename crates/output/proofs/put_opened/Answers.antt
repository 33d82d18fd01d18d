-- `output::put_opened` meets its contract. Assumes nothing.
use mathlib.Core.Path.{◌≡◌}
use mathlib.Core.List.{◌++◌}
use Rattle.writer.specs.Text.{ascii}
use Rattle.writer.proofs.WriterLaws.{appended_as, appended_then, room_first, room_next}
use Rattle.output.specs.Program.{opened_line}
use Rattle.output.proofs.PrintLaws.{opened_fields, opened_line_lem}
use Rattle.output.proofs.put_opened.Goals.{After-legs-legs}
use Rattle.output.proofs.put_opened.Goals as goal

line : (c : After-legs-legs) → opened_fields c.args.work.now c.legs-legs.result ++ ascii "\n" ≡ opened_line c.args.work.now
line c = opened_line_lem c.args.work.now c.requires.0 _ c.legs-legs.ensures.0

pub put_fields-requires : goal.put_fields-requires
put_fields-requires c =
    room_first c.args.out.now (opened_fields c.args.work.now c.legs-legs.result) (ascii "\n") (line (goal.at.put_fields-requires c).After-legs-legs) c.requires.1

pub byte-requires : goal.byte-requires
byte-requires c =
    room_next (opened_fields c.args.work.now c.legs-legs.result) (ascii "\n") c.put_fields.ensures (line (goal.at.byte-requires c).After-legs-legs) c.requires.1

pub returns : goal.returns
returns c = appended_as (line (goal.at.returns c).After-legs-legs) (appended_then c.put_fields.ensures c.byte.ensures)
