-- `Groups::regroup` meets its contract. Assumes nothing.
use Rattle.idle.proofs.GroupLaws.{group_wider, part_or_l, part_or_r}
use Rattle.idle.proofs.groups.Groups.regroup.Goals as goal

pub keep-requires : goal.keep-requires
keep-requires c =
    let g = c.args.self.now in
    (part_or_r g.room c.args.level, λ k l. group_wider (c.requires.each k l) (part_or_l g.room c.args.level))
