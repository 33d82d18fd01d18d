use mathlib.Core.Path.{◌≡◌}
use mathlib.Core.List.{◌++◌}
use Prim.Native.Nat.{◌+◌, ◌-◌, ◌≤◌}
use native.Mathlib.Omega.{arith}
use lib.ListN.{length, take, length-take}
use Rattle.bitset.specs.Upto.{row}
use Rattle.report.specs.Lines.{line_of, lines_from}
use Rattle.report.proofs.LineLaws.{lines_more, lines_all}
use Rattle.writer.proofs.FillingLaws.{filling_none, filling_room, filling_more, filling_all}
use Rattle.report.proofs.put_lines.Goals.{In-loop-i}
use Rattle.report.proofs.put_lines.Goals as goal

split : (c : In-loop-i) → (let n = c.args.n in let i = c.loop-i.i in let rows = c.args.rows.now in
    lines_from (n - i) i rows ≡ line_of i (row (take n rows) i) ++ lines_from (n - (i + 1)) (i + 1) rows)
split c = lines_more c.args.n c.loop-i.i c.args.rows.now (omega (arith, length-take c.args.n c.args.rows.now))

room : (c : In-loop-i) → c.loop-i.at + length (line_of c.loop-i.i (row (take c.args.n c.args.rows.now) c.loop-i.i)) ≤ length c.loop-i.buf
room c =
    filling_room (line_of c.loop-i.i (row (take c.args.n c.args.rows.now) c.loop-i.i)) (lines_from (c.args.n - (c.loop-i.i + 1)) (c.loop-i.i + 1) c.args.rows.now)
    (split c) c.loop-i.invariant

pub put_line-at-requires : goal.put_line-at-requires
put_line-at-requires c =
    (omega (arith, length-take c.args.n c.args.rows.now), (let h = room (goal.at.put_line-at-requires c).In-loop-i in omega (arith, h)))

pub overflow_add-at : goal.overflow_add-at
overflow_add-at c = omega (arith, room (goal.at.overflow_add-at c).In-loop-i)

pub loop-i-init : goal.loop-i-init
loop-i-init c = let all : c.args.n - 0 ≡ c.args.n = omega arith in rw all (filling_none _ _ c.requires.1)

pub loop-i-preserved : goal.loop-i-preserved
loop-i-preserved c = filling_more (split (goal.at.loop-i-preserved c).In-loop-i) c.loop-i.invariant c.put_line-at.ensures

pub returns : goal.returns
returns c = filling_all (lines_all c.args.n c.loop-i.i c.args.rows.now (omega (arith, length-take c.args.n c.args.rows.now))) c.loop-i.invariant
