-- `groups::hanging` meets its contract. Assumes nothing.
use Prim.Native.Nat.{◌-◌, ◌^◌}
use lib.Bits.{bit_and}
use Rattle.circuit.specs.Legs.{leg}
use Rattle.separator.specs.inner.Reach.{entered}
use Rattle.idle.proofs.GroupLaws.{part_l, hanging_along}
use Rattle.idle.proofs.group.hanging.Goals as goal

pub returns : goal.returns
unfolding entered leg
returns c =
    let a = c.args in
    λ wide p part from.
    hanging_along a.nbr.now (bit_and a.room ((2 ^ 64 - 1) - a.set)) wide p a.set a.edge
    (λ x e. part x (part_l a.room ((2 ^ 64 - 1) - a.set) x e)) from c.union_of_rows.ensures c.grown.ensures
