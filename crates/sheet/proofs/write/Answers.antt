-- `sheet::write` meets its contract. Assumes nothing.
use mathlib.Core.Path.{◌≡◌, sym, ◌∙◌}
use mathlib.Core.Bool.{false}
use Prim.Native.Nat.{◌≤◌}
use native.Mathlib.Omega.{arith}
use lib.ListN.{length}
use Rattle.circuit.specs.declared.state.Work.{Work}
use Rattle.circuit.specs.State.{rows_of, bad}
use Rattle.circuit.specs.inner.Tables.{Square}
use Rattle.circuit.proofs.StateLaws.{good, stray_row_lem}
use Rattle.circuit.proofs.FillLaws.{bad_work, good_work, no_room, taken}
use Rattle.sheet.specs.Write.{sheet_of}
use Rattle.sheet.proofs.write.Goals.{Else-short, Else-is_bad_state}
use Rattle.sheet.proofs.write.Goals as goal

-- past the first test the state is good, and past the second there is room
state_good : (c : Else-is_bad_state) → bad c.args.work ≡ false
state_good c = sym (c.is_bad_state.ensures c.args.work.mark c.args.work.end) ∙ c.if-is_bad_state.false

below : (w : Work) → bad w ≡ false → Square w.n (rows_of w)
below w e = let g = good w e in stray_row_lem w.n (rows_of w) g.most g.table

room : (c : Else-short) → length (sheet_of c.args.work) ≤ length c.args.buf.now
unfolding sheet_of
room c = omega (arith, c.sheet_len.ensures)

pub returns-then-is_bad_state : goal.returns-then-is_bad_state
returns-then-is_bad_state c = bad_work _ _ _ (sym (c.is_bad_state.ensures c.args.work.mark c.args.work.end) ∙ c.if-is_bad_state.true)

pub sheet_len-requires : goal.sheet_len-requires
sheet_len-requires c = let e = state_good (goal.at.sheet_len-requires c).Else-is_bad_state in ((good _ e).most, below _ e)

pub returns-then-short : goal.returns-then-short
unfolding sheet_of
returns-then-short c =
    let w : Work = c.args.work in
    good_work w (sheet_of w) _ (state_good (goal.at.returns-then-short c).Else-is_bad_state) (no_room (sheet_of w) _ (omega (arith, c.sheet_len.ensures)))

pub put_sheet-len-requires : goal.put_sheet-len-requires
unfolding sheet_of
put_sheet-len-requires c = let e = state_good (goal.at.put_sheet-len-requires c).Else-is_bad_state in ((good _ e).most, below _ e, room (goal.at.put_sheet-len-requires c).Else-short)

pub returns : goal.returns
unfolding sheet_of
returns c =
    let w : Work = c.args.work in
    good_work w (sheet_of w) _ (state_good (goal.at.returns c).Else-is_bad_state) (taken (sheet_of w) _ _ _ (room (goal.at.returns c).Else-short) c.put_sheet-len.ensures)
