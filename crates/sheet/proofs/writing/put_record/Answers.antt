-- `sheet::writing::put_record` meets its contract: the map, and after it the field. Assumes nothing.
use mathlib.Core.Path.{◌∙◌}
use native.Mathlib.Omega.{arith}
use Rattle.writer.proofs.WriterLaws.{wrote_as, wrote_then}
use Rattle.sheet.specs.Layout.{map_of, entry_bytes}
use borrow.Author.Rules.{rules}
use Rattle.sheet.proofs.WriteLaws.{next_length, set_bytes_le}
use Rattle.sheet.proofs.writing.put_record.Goals as goal

pub put_byte-requires : goal.put_byte-requires
unfolding entry_bytes
put_byte-requires c = let room = rw c.in-Free.is at c.requires in omega arith

pub returns-in-Free : goal.returns-in-Free
unfolding map_of entry_bytes
returns-in-Free c = rw c.in-Free.is c.put_byte.ensures

pub put_byte-at-requires : goal.put_byte-at-requires
unfolding entry_bytes
put_byte-at-requires c = let room = rw c.in-Fixed.is at c.requires in omega arith

pub put_byte-requires-in-Fixed : goal.put_byte-requires-in-Fixed
unfolding entry_bytes
put_byte-requires-in-Fixed c = let room = rw c.in-Fixed.is at c.requires in search rules

pub returns-in-Fixed : goal.returns-in-Fixed
unfolding map_of entry_bytes
returns-in-Fixed c = rw c.in-Fixed.is (wrote_then c.put_byte-at.ensures c.put_byte-in-Fixed.ensures)

pub put_byte-at-requires-in-Next : goal.put_byte-at-requires-in-Next
put_byte-at-requires-in-Next c = let room = rw c.in-Next.is at c.requires in omega (arith, next_length c.in-Next.set)

pub put_text-requires : goal.put_text-requires
put_text-requires c =
    let room = rw c.in-Next.is at c.requires in
    let size = next_length c.in-Next.set in
    search rules

pub returns-in-Next : goal.returns-in-Next
unfolding map_of entry_bytes
returns-in-Next c =
    rw c.in-Next.is (wrote_then c.put_byte-at-in-Next.ensures (wrote_as (c.to_le_bytes.ensures ∙ set_bytes_le c.in-Next.set) c.put_text.ensures))
