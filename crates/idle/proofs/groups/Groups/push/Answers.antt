-- `Groups::push` meets its contract. Assumes nothing.
use mathlib.Core.Path.{refl}
use Prim.Native.Nat.{◌^◌, ◌<◌}
use borrow.Author.Rules.{rules}
use lib.Seq.{get_or-set_other}
use Rattle.idle.proofs.GroupLaws.{grouping_more}
use Rattle.idle.proofs.groups.Groups.push.Goals as goal

pub returns : goal.returns
returns c =
    let g = c.args.self.now in
    let few : g.count < 32 = c.requires in
    let left : g.left < 2 ^ 64 = search rules in
    let part : c.args.new.part < 2 ^ 64 = search rules in (
      refl,
      refl,
      refl,
      refl,
      λ h away. get_or-set_other g.groups g.count h c.args.new _ away,
      λ w G new. grouping_more G new (search rules) few refl refl refl refl left part,
    )
