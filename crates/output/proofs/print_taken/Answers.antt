-- `output::print_taken` meets its contract. Assumes nothing.
use mathlib.Core.Path.{ap, ap₂, ◌∙◌}
use mathlib.Core.List.{◌++◌}
use Prim.Native.Nat.{ℕ, ◌≤◌}
use native.Mathlib.Omega.{arith}
use lib.ListN.{length}
use Rattle.writer.proofs.WriterLaws.{appended_then, appended_front, front_most}
use Rattle.circuit.specs.State.{rows_of}
use Rattle.circuit.proofs.FillLaws.{fills_as}
use Rattle.filter.specs.declared.cycle.Ran.{Ran}
use Rattle.filter.specs.Ends.{full_budget}
use Rattle.report.specs.Lines.{lines_from}
use Rattle.output.specs.Program.{ran_line}
use Rattle.output.proofs.PrintLaws.{shown_most, taken_text_lem}
use Rattle.output.proofs.SizeLaws.{opened_line_most, ran_line_most}
use Rattle.output.proofs.print_taken.Goals as goal

pub put_opened-requires : goal.put_opened-requires
put_opened-requires c =
    let e = c.new-out.ensures in
    (c.requires, omega (arith, e.len, ap length e.bytes, opened_line_most c.args.work c.requires))

pub put_ran-requires : goal.put_ran-requires
put_ran-requires c =
    let e = c.new-out.ensures in
    let two : length (ran_line c.run-ran.result) ≤ 37 = rw c.run-ran.ensures (ran_line_most c.args.work c.requires) in
    omega (arith, e.len, ap length e.bytes, c.put_opened.ensures, opened_line_most c.args.work c.requires)

pub print_lines-requires : goal.print_lines-requires
print_lines-requires c =
    let e = c.new-out.ensures in (
      rw (c.shown.ensures, c.run-ran.ensures) (shown_most c.args.work full_budget c.requires),
      omega (arith, ap length e.bytes, ap length c.written.ensures, front_most c.put_ran.new.out, c.put_ran.ensures.size, c.put_opened.ensures.size),
    )

pub returns : goal.returns
returns c =
    let r : Ran = c.run-ran.result in
    let two = c.written.ensures ∙ appended_front c.new-out.ensures.len (appended_then c.put_opened.ensures c.put_ran.ensures) in
    let lines = ap (λ (n : ℕ). lines_from n 0 (rows_of r.work)) c.shown.ensures in
    fills_as (ap₂ ◌++◌ two lines ∙ taken_text_lem c.args.work r c.run-ran.ensures) c.print_lines.ensures
