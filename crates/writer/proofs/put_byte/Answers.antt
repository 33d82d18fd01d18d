-- `writer::put_byte` meets its contract. Assumes nothing.
use mathlib.Core.Path.{refl}
use lib.Seq.{set_split}
use Rattle.writer.proofs.put_byte.Goals as goal

pub returns : goal.returns
returns c = record { count = refl; bytes = set_split c.args.buf.now 0 _ c.requires }
