-- `sheet::writing::put_sheet` meets its contract. Assumes nothing.
use borrow.Author.Rules.{rules}
use Prim.Native.Nat.{◌≤◌}
use native.Mathlib.Omega.{arith}
use lib.ListN.{length}
use Rattle.writer.proofs.WriterLaws.{wrote_then}
use Rattle.sheet.specs.Layout.{bytes_of}
use Rattle.sheet.specs.Write.{page_of}
use Rattle.sheet.proofs.writing.put_sheet.Goals as goal

pub put_byte-at-requires : goal.put_byte-at-requires
unfolding bytes_of
put_byte-at-requires c = search rules

pub slice_bounds-put_records-count : goal.slice_bounds-put_records-count
unfolding bytes_of
slice_bounds-put_records-count c = search rules

pub slice_bounds-put_records-start : goal.slice_bounds-put_records-start
unfolding bytes_of
slice_bounds-put_records-start c = search rules

pub put_records-requires : goal.put_records-requires
unfolding bytes_of
put_records-requires c =
    let room : length (bytes_of (page_of c.args.n c.args.rows.now)) ≤ length c.args.buf.now = c.requires.2 in
    (c.requires.0, c.requires.1, search rules)

pub overflow_add-result : goal.overflow_add-result
unfolding bytes_of
overflow_add-result c = omega (arith, c.requires.2, c.put_byte-at.ensures.count, c.put_records.ensures.count)

pub returns : goal.returns
unfolding bytes_of page_of
returns c = wrote_then c.put_byte-at.ensures c.put_records.ensures
