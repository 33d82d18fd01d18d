use mathlib.Core.Path.{◌≡◌, sym, ap, ap₂, ◌∙◌}
use mathlib.Core.List.{List}
use Prim.Native.Nat.{ℕ, ◌+◌, ◌-◌, ◌≤◌}
use native.Mathlib.Omega.{arith}
use lib.Bits.{bit_and}
use lib.ListN.{length, drop, length-drop}
use Rattle.std.specs.Prelude.{Result}
use Rattle.sheet.specs.declared.reader.Fault.{Fault}
use Rattle.sheet.specs.declared.reader.Record.{Record}
use Rattle.sheet.specs.Open.{read_entry, taken}
use Rattle.sheet.specs.inner.Reader.{IsRecord}
use Rattle.sheet.proofs.ReaderLaws.{rest_of, record_told}
use Rattle.sheet.proofs.RecordsLaws.{SoFar, so_far_none, so_far_more, so_far_fault, so_far_all, so_far_corner, so_far_over, so_far_whole}
use Rattle.sheet.proofs.read_records.Goals.{After-loop-i, After-read_record, At-loop-i}
use Rattle.sheet.proofs.read_records.Goals as goal

all_read : (c : After-loop-i) → SoFar c.args.n c.args.sheet.now c.loop-i.rows c.loop-i.barred c.loop-i.at c.args.n
all_read c = so_far_all c.loop-i.invariant (omega arith)

pub loop-i-init : goal.loop-i-init
loop-i-init c = rw c.requires.2 (so_far_none c.args.n c.args.sheet.now c.requires.1)

-- what the reader answers on the rest of the sheet
told : (c : After-read_record) (r : Result Record Fault) → c.read_record.result ≡ r
    → IsRecord (read_entry c.args.n (drop c.loop-i.at c.args.sheet.now)) (drop c.loop-i.at c.args.sheet.now) r
told c r e = record_told c.args.n (rest_of c.loop-i.at c.args.sheet.now) e c.read_record.ensures

-- the offset k in the rest of the sheet is a place in the sheet
place_fits : (c : At-loop-i) (k : ℕ) → k ≤ length (drop c.loop-i.at c.args.sheet.now) → c.loop-i.at + k ≤ length c.args.sheet.now
place_fits c k l = omega (arith, c.loop-i.invariant.within, length-drop c.loop-i.at c.args.sheet.now)

pub overflow_add-at : goal.overflow_add-at
overflow_add-at c =
    omega (arith, place_fits (goal.at.overflow_add-at c).At-loop-i _ (told (goal.at.overflow_add-at c).After-read_record _ c.in-Ok.is).0.within, c.well_formed)

pub returns-in-Err : goal.returns-in-Err
returns-in-Err c = λ limit. sym (so_far_fault c.loop-i.invariant limit (omega arith) (told (goal.at.returns-in-Err c).After-read_record _ c.in-Err.is))

pub loop-i-preserved : goal.loop-i-preserved
loop-i-preserved c =
    let r = told (goal.at.loop-i-preserved c).After-read_record _ c.in-Ok.is in
    let bars = ap₂ (λ (f w : ℕ). bit_and f (18446744073709551615 - w)) c.full.ensures r.2 in
    so_far_more c.loop-i.invariant r.0 _ _ r.1 bars (omega arith)

pub returns-then-at-sheet : goal.returns-then-at-sheet
returns-then-at-sheet c = λ limit. sym (so_far_over (all_read (goal.at.returns-then-at-sheet c).After-loop-i) limit c.if-at-sheet.true)

pub strike-requires : goal.strike-requires
strike-requires c =
    let all = all_read (goal.at.strike-requires c).After-loop-i in
    (c.requires.0, so_far_corner all c.requires.0, all.empty)

pub returns : goal.returns
returns c = λ limit.
    ap (λ (t : List ℕ). taken c.args.n t limit) c.strike.ensures
    ∙ sym (so_far_whole (all_read (goal.at.returns c).After-loop-i) limit (omega arith) c.requires.0)
