-- `output::put_fields` meets its contract: four texts, one after another. Assumes nothing.
use mathlib.Core.Path.{◌≡◌}
use mathlib.Core.List.{◌++◌}
use Prim.Native.Nat.{◌+◌}
use native.Mathlib.Omega.{arith}
use lib.ListN.{length, length-append}
use Rattle.writer.specs.Text.{decimal}
use Rattle.writer.proofs.WriterLaws.{appended_then}
use Rattle.output.proofs.put_fields.Goals.{Start}
use Rattle.output.proofs.put_fields.Goals as goal

size : (c : Start) → (let first = c.args.first.now in let second = c.args.second.now in
    length (first ++ decimal c.args.x ++ second ++ decimal c.args.y) ≡ length first + length (decimal c.args.x) + length second + length (decimal c.args.y))
size c = simp length-append (omega arith)

pub text-requires : goal.text-requires
text-requires c = omega (arith, size (goal.at.text-requires c).Start)

pub number-requires : goal.number-requires
number-requires c = omega (arith, size (goal.at.number-requires c).Start)

pub text-requires-2 : goal.text-requires-2
text-requires-2 c = omega (arith, size (goal.at.text-requires-2 c).Start)

pub number-requires-2 : goal.number-requires-2
number-requires-2 c = omega (arith, size (goal.at.number-requires-2 c).Start)

pub returns : goal.returns
returns c = appended_then (appended_then (appended_then c.text.ensures c.number.ensures) c.text-2.ensures) c.number-2.ensures
