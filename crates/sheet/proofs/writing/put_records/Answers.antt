use borrow.Author.Rules.{rules}
use mathlib.Core.Path.{◌≡◌, ap}
use mathlib.Core.List.{[], ◌++◌}
use Prim.Native.Nat.{◌+◌, ◌≤◌, ◌<◌}
use native.Mathlib.Omega.{arith}
use lib.ListN.{length, take, length-take}
use lib.Seq.{get_or-take}
use Rattle.bitset.specs.Upto.{row}
use Rattle.writer.proofs.WriterLaws.{wrote_as}
use Rattle.writer.proofs.FillingLaws.{filling_none, filling_room, filling_more, filling_all}
use Rattle.sheet.specs.Layout.{Entry, entry_bytes}
use Rattle.sheet.specs.Write.{entry_of}
use Rattle.sheet.proofs.WriteLaws.{records_from, records_more, records_all}
use Rattle.sheet.proofs.writing.put_records.Goals.{In-loop-row}
use Rattle.sheet.proofs.writing.put_records.Goals as goal

there : (c : In-loop-row) → c.loop-row.row-index < c.args.n
there c = omega (arith, length-take c.args.n c.args.rows.now)

split : (c : In-loop-row) → (let n = c.args.n in let rows = c.args.rows.now in let i = c.loop-row.row-index in
    records_from n rows i ≡ entry_bytes (entry_of n (row (take n rows) i)) [] ++ records_from n rows (i + 1))
split c = records_more c.args.n c.args.rows.now c.loop-row.row-index (there c)

room : (c : In-loop-row) → (let n = c.args.n in let rows = c.args.rows.now in let i = c.loop-row.row-index in
    c.loop-row.at + length (entry_bytes (entry_of n (row (take n rows) i)) []) ≤ length c.loop-row.buf)
room c =
    let n = c.args.n in
    let rows = c.args.rows.now in
    let i = c.loop-row.row-index in
    filling_room (entry_bytes (entry_of n (row (take n rows) i)) []) (records_from n rows (i + 1)) (split c) c.loop-row.invariant

pub loop-row-init : goal.loop-row-init
loop-row-init c = filling_none _ _ c.requires.2

pub fields_of-requires : goal.fields_of-requires
fields_of-requires c =
    let l = there (goal.at.fields_of-requires c).In-loop-row in
    (omega arith, c.requires.0, rw (get_or-take c.args.n c.args.rows.now c.loop-row.row-index 0 l) (c.requires.1 c.loop-row.row-index l))

pub put_record-at-requires : goal.put_record-at-requires
put_record-at-requires c =
    let h = room (goal.at.put_record-at-requires c).In-loop-row in
    let size = ap (λ (e : Entry). length (entry_bytes e [])) c.fields_of.ensures in
    search rules

pub overflow_add-at : goal.overflow_add-at
overflow_add-at c =
    let size = ap (λ (e : Entry). length (entry_bytes e [])) c.fields_of.ensures in
    omega (arith, room (goal.at.overflow_add-at c).In-loop-row, size, c.put_record-at.ensures.count)

pub loop-row-preserved : goal.loop-row-preserved
loop-row-preserved c =
    let its = wrote_as (ap (λ (e : Entry). entry_bytes e []) c.fields_of.ensures) c.put_record-at.ensures in
    filling_more (split (goal.at.loop-row-preserved c).In-loop-row) c.loop-row.invariant its

pub returns : goal.returns
returns c = filling_all (records_all c.args.n c.args.rows.now c.loop-row.row-index (omega (arith, length-take c.args.n c.args.rows.now))) c.loop-row.invariant
