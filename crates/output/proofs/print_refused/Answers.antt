-- `output::print_refused` meets its contract. Assumes nothing.
use mathlib.Core.Path.{ap, ◌∙◌}
use mathlib.Core.List.{append-nil}
use Prim.Native.Nat.{ℕ}
use native.Mathlib.Omega.{arith}
use lib.ListN.{length, length-append}
use Rattle.writer.proofs.NumberLaws.{decimal_length}
use Rattle.writer.proofs.WriterLaws.{appended_then, appended_front}
use Rattle.circuit.proofs.FillLaws.{fills_as}
use Rattle.report.specs.Lines.{lines_from}
use Rattle.output.specs.Program.{refused_line}
use Rattle.output.proofs.print_refused.Goals as goal

-- the head has room for any two numbers
pub put_fields-requires : goal.put_fields-requires
put_fields-requires c =
    let e = c.new-out.ensures in
    let number = decimal_length 19 c.number-number.result (omega arith) in
    let place = decimal_length 19 c.args.at (omega arith) in
    simp length-append (omega (arith, e.len, ap length e.bytes, number, place))

pub byte-requires : goal.byte-requires
byte-requires c =
    let e = c.new-out.ensures in
    let number = decimal_length 19 c.number-number.result (omega arith) in
    let place = decimal_length 19 c.args.at (omega arith) in
    let put = c.put_fields.ensures in
    let count = simp length-append at put.count in
    omega (arith, e.len, ap length e.bytes, count, put.size, number, place)

pub returns : goal.returns
unfolding lines_from refused_line
returns c =
    let line = appended_front c.new-out.ensures.len (appended_then c.put_fields.ensures c.byte.ensures) in
    fills_as (append-nil _ ∙ c.written.ensures ∙ line ∙ ap (λ (k : ℕ). refused_line k c.args.at) c.number-number.ensures) c.print_lines.ensures
