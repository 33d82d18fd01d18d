-- `Group::carried` meets its contract. Assumes nothing.
use Rattle.idle.proofs.GroupLaws.{old_hangs}
use Rattle.idle.proofs.group.Group.carried.Goals as goal

pub returns : goal.returns
returns c =
    λ room in_left in-level G.
    let A = c.led_on-ahead.ensures room G.pivot in_left in-level G.ahead in
    let B = c.led_on-back.ensures room G.pivot in_left in-level G.back in
    record {
      pivot = G.pivot;
      ahead = A;
      back = B;
      hangs = c.hanging-part.ensures room G.pivot in_left (old_hangs c.args.ways A B c.args.self.part G.hangs);
    }
