-- `output::put_ran` meets its contract. Assumes nothing.
use mathlib.Core.Path.{◌≡◌, ap, ◌∙◌}
use Prim.Native.Nat.{◌+◌}
use native.Mathlib.Omega.{arith}
use lib.ListN.{length, length-append}
use Rattle.writer.specs.Text.{ascii, decimal}
use Rattle.circuit.specs.Card.{word}
use Rattle.writer.proofs.WriterLaws.{appended_as, appended_then}
use Rattle.output.proofs.PrintLaws.{word_codes, ran_line_lem}
use Rattle.output.specs.Program.{steps_line, ran_line}
use Rattle.output.proofs.put_ran.Goals.{Start, After-as_bytes}
use Rattle.output.proofs.put_ran.Goals as goal

end_word : (c : After-as_bytes) → c.as_bytes.result.now ≡ ascii (word c.args.ran.now.work.end)
end_word c = c.as_bytes.ensures.value ∙ c.word.ensures ∙ word_codes c.args.ran.now.work.end

-- the line, by the lengths of its parts
size : (c : Start) → (let r = c.args.ran.now in
    length (ran_line r) ≡ length (decimal r.steps) + length (decimal r.removed) + length (ascii (word r.work.end)) + 21)
unfolding steps_line
size c = simp length-append (omega arith)

pub put_fields-requires : goal.put_fields-requires
put_fields-requires c = let line = size (goal.at.put_fields-requires c).Start in simp length-append (omega (arith, c.requires, line))

pub text-requires : goal.text-requires
text-requires c =
    let line = size (goal.at.text-requires c).Start in
    let put = c.put_fields.ensures in
    let count = simp length-append at put.count in
    omega (arith, c.requires, line, count, put.size)

pub text-requires-2 : goal.text-requires-2
text-requires-2 c =
    let line = size (goal.at.text-requires-2 c).Start in
    let put = c.put_fields.ensures in
    let count = simp length-append at put.count in
    let end = ap length (end_word (goal.at.text-requires-2 c).After-as_bytes) in
    omega (arith, c.requires, line, count, put.size, c.text.ensures, end)

pub byte-requires : goal.byte-requires
byte-requires c =
    let line = size (goal.at.byte-requires c).Start in
    let put = c.put_fields.ensures in
    let count = simp length-append at put.count in
    let end = ap length (end_word (goal.at.byte-requires c).After-as_bytes) in
    omega (arith, c.requires, line, count, put.size, c.text.ensures, c.text-2.ensures, end)

pub returns : goal.returns
returns c =
    appended_as (ran_line_lem c.args.ran.now)
    (appended_then (appended_then (appended_then c.put_fields.ensures c.text.ensures) (appended_as (end_word (goal.at.returns c).After-as_bytes) c.text-2.ensures)) c.byte.ensures)
