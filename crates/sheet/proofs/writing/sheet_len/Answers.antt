use mathlib.Core.Path.{◌≡◌, ap, ◌∙◌}
use mathlib.Core.List.{[]}
use Prim.Native.Nat.{◌+◌, ◌≤◌, ◌<◌}
use native.Mathlib.Omega.{arith}
use lib.ListN.{length, take, length-append, length-take}
use lib.Seq.{get_or-take}
use Rattle.bitset.specs.Upto.{row}
use Rattle.sheet.specs.Layout.{Entry, entry_bytes, bytes_of}
use Rattle.sheet.specs.Write.{entry_of}
use Rattle.sheet.proofs.WriteLaws.{records_from, records_more, records_all}
use Rattle.sheet.proofs.WrittenSizeLaws.{entry_most}
use Rattle.sheet.proofs.writing.sheet_len.Goals.{After-record_len-len, In-loop-row}
use Rattle.sheet.proofs.writing.sheet_len.Goals as goal

there : (c : In-loop-row) → c.loop-row.row-index < c.args.n
there c = omega (arith, length-take c.args.n c.args.rows.now)

pub loop-row-init : goal.loop-row-init
unfolding bytes_of
loop-row-init c = (omega arith, omega arith)

pub fields_of-requires : goal.fields_of-requires
fields_of-requires c =
    let l = there (goal.at.fields_of-requires c).In-loop-row in
    (omega arith, c.requires.0, rw (get_or-take c.args.n c.args.rows.now c.loop-row.row-index 0 l) (c.requires.1 c.loop-row.row-index l))

counted : (c : After-record_len-len) → c.record_len-len.result ≡ length (entry_bytes (entry_of c.args.n (row (take c.args.n c.args.rows.now) c.loop-row.row-index)) [])
counted c = c.record_len-len.ensures ∙ ap (λ (e : Entry). length (entry_bytes e [])) c.fields_of.ensures

few : (c : After-record_len-len) → c.record_len-len.result ≤ 9
few c = omega (arith, counted c, entry_most c.args.n (row (take c.args.n c.args.rows.now) c.loop-row.row-index))

pub overflow_add-len : goal.overflow_add-len
overflow_add-len c = omega (arith, few c, there (goal.at.overflow_add-len c).In-loop-row)

pub loop-row-preserved : goal.loop-row-preserved
loop-row-preserved c =
    let n = c.args.n in
    let rows = c.args.rows.now in
    let i = c.loop-row.row-index in
    let more = records_more n rows i (there (goal.at.loop-row-preserved c).In-loop-row) in
    (omega (arith, few c), omega (arith, counted c, ap length more, length-append (entry_bytes (entry_of n (row (take n rows) i)) []) (records_from n rows (i + 1))))

pub returns : goal.returns
returns c =
    let size = length-take c.args.n c.args.rows.now in
    omega (arith, ap length (records_all c.args.n c.args.rows.now c.loop-row.row-index (omega arith)))
