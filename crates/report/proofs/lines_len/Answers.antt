use mathlib.Core.Path.{ap}
use mathlib.Core.List.{List}
use Prim.Native.Nat.{ℕ, ◌+◌, ◌-◌}
use native.Mathlib.Omega.{arith}
use lib.ListN.{length, take, length-append, length-take}
use Rattle.bitset.specs.Upto.{row}
use Rattle.report.specs.Lines.{line_of, lines_from}
use Rattle.report.proofs.LineLaws.{lines_more, lines_all}
use Rattle.report.proofs.lines_len.Goals as goal

pub loop-i-preserved : goal.loop-i-preserved
loop-i-preserved c =
    let n : ℕ = c.args.n in
    let i : ℕ = c.loop-i.i in
    let rows : List ℕ = c.args.rows.now in
    let more = lines_more n i rows (omega (arith, length-take n rows)) in
    (omega arith, omega (arith, ap length more, length-append (line_of i (row (take n rows) i)) (lines_from (n - (i + 1)) (i + 1) rows)))

pub returns : goal.returns
returns c =
    let size = length-take c.args.n c.args.rows.now in
    omega (arith, ap length (lines_all c.args.n c.loop-i.i c.args.rows.now (omega arith)))
