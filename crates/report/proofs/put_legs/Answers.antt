use mathlib.Core.Path.{ap, ◌∙◌}
use Prim.Native.Nat.{ℕ, ◌-◌}
use native.Mathlib.Omega.{arith}
use lib.Bits.{and_le_l}
use Rattle.report.specs.Lines.{leg_to, legs_to}
use Rattle.report.proofs.LegLaws.{legs_parts, legs_empty}
use Rattle.writer.proofs.WriterLaws.{writing_room, writing_more, writing_all}
use Rattle.report.proofs.put_legs.Goals as goal

pub put_leg-requires : goal.put_leg-requires
put_leg-requires c =
    let step = c.in-Some.ensures.steps in
    (step.below, writing_room (leg_to c.in-Some.k) (legs_to 64 0 c.next.new.self.rest) (legs_parts c.loop-k.invariant.0 step) c.loop-k.invariant.1)

pub loop-k-preserved : goal.loop-k-preserved
loop-k-preserved c =
    let step = c.in-Some.ensures.steps in
    let rest : ℕ = c.loop-k.k-iterator.rest in
    (omega (arith, step.others, and_le_l rest (rest - 1)), writing_more (legs_parts c.loop-k.invariant.0 step) c.loop-k.invariant.1 c.put_leg.ensures)

pub returns : goal.returns
returns c = writing_all (ap (legs_to 64 0) c.in-None.ensures.steps.0 ∙ legs_empty 64) c.loop-k.invariant.1
