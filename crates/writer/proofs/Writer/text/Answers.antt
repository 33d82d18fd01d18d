-- `Writer::text` meets its contract: the text is put into the rest. Assumes nothing.
use mathlib.Core.Path.{refl}
use Rattle.writer.proofs.WriterLaws.{appended_rest}
use Rattle.writer.proofs.Writer.text.Goals as goal

pub returns : goal.returns
returns c = appended_rest c.requires refl c.put_text.ensures refl refl
