-- `sheet::writing::record_len` meets its contract. Assumes nothing.
use mathlib.Core.Path.{sym}
use native.Mathlib.Omega.{arith}
use Rattle.sheet.specs.Layout.{entry_bytes}
use Rattle.sheet.proofs.WriteLaws.{next_length}
use Rattle.sheet.proofs.writing.record_len.Goals as goal

pub returns-in-Free : goal.returns-in-Free
unfolding entry_bytes
returns-in-Free c = rw c.in-Free.is (omega arith)

pub returns-in-Fixed : goal.returns-in-Fixed
unfolding entry_bytes
returns-in-Fixed c = rw c.in-Fixed.is (omega arith)

pub returns-in-Next : goal.returns-in-Next
returns-in-Next c = rw c.in-Next.is (sym (next_length _))
