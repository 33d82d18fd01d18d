-- `report::report` meets its contract. Assumes nothing.
use mathlib.Core.Path.{◌≡◌, sym, ◌∙◌}
use mathlib.Core.Bool.{false}
use Prim.Native.Nat.{◌≤◌}
use native.Mathlib.Omega.{arith}
use lib.ListN.{length}
use Rattle.circuit.specs.State.{bad}
use Rattle.circuit.proofs.StateLaws.{good}
use Rattle.circuit.proofs.FillLaws.{no_room, taken, bad_work, good_work}
use Rattle.report.specs.Lines.{text}
use Rattle.report.proofs.report.Goals.{Else-buf-lines_len, Else-is_bad}
use Rattle.report.proofs.report.Goals as goal

-- past the first test the state is good, and past the second there is room
state_good : (c : Else-is_bad) → bad c.args.work ≡ false
state_good c = sym c.is_bad.ensures ∙ c.if-is_bad.false

room : (c : Else-buf-lines_len) → length (text c.args.work) ≤ length c.args.buf.now
unfolding text
room c = omega (arith, c.lines_len.ensures)

pub returns-then-is_bad : goal.returns-then-is_bad
returns-then-is_bad c = bad_work _ _ _ (sym c.is_bad.ensures ∙ c.if-is_bad.true)

pub lines_len-requires : goal.lines_len-requires
lines_len-requires c = (good _ (state_good (goal.at.lines_len-requires c).Else-is_bad)).most

pub returns-then-buf-lines_len : goal.returns-then-buf-lines_len
unfolding text
returns-then-buf-lines_len c = good_work _ _ _ (state_good (goal.at.returns-then-buf-lines_len c).Else-is_bad) (no_room _ _ (omega (arith, c.lines_len.ensures)))

pub put_lines-len-requires : goal.put_lines-len-requires
unfolding text
put_lines-len-requires c =
    ((good _ (state_good (goal.at.put_lines-len-requires c).Else-is_bad)).most, room (goal.at.put_lines-len-requires c).Else-buf-lines_len)

pub returns : goal.returns
unfolding text
returns c = good_work _ _ _ (state_good (goal.at.returns c).Else-is_bad) (taken _ _ _ _ (room (goal.at.returns c).Else-buf-lines_len) c.put_lines-len.ensures)
