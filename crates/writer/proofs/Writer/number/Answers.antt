-- `Writer::number` meets its contract: the number is put into the rest. Assumes nothing.
use mathlib.Core.Path.{refl}
use Rattle.writer.proofs.WriterLaws.{appended_rest}
use Rattle.writer.proofs.Writer.number.Goals as goal

pub returns : goal.returns
returns c = appended_rest c.requires refl c.put_number.ensures refl refl
