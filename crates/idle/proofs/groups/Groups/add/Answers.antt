use mathlib.Core.Path.{sym, ◌∙◌, subst}
use Prim.Native.Nat.{ℕ, ◌^◌, ◌<◌}
use borrow.Author.Rules.{rules}
use lib.Count.{ones}
use Rattle.bitset.proofs.HasLaws.{member_below}
use Rattle.bitset.proofs.OnesLaws.{ones_less}
use Rattle.idle.proofs.groups.Groups.add.Goals as goal

-- the new group takes its pivot
pub loop-self-smaller : goal.loop-self-smaller
loop-self-smaller c =
    let left = c.loop-self.self.left in
    let part = c.started.result.part in
    let fits : left < 2 ^ 64 = search rules in
    let (x, e, f) = c.started.ensures.1 in
    subst (λ (v : ℕ). ones v < ones left) (sym c.push.ensures.3)
    (ones_less 64 left part x fits (search rules) (member_below 64 left x fits e) e f)

pub loop-self-preserved : goal.loop-self-preserved
loop-self-preserved c =
    let l = c.loop-self in
    let more = c.push.ensures in
    record {
      same = more.1 ∙ l.invariant.same;
      grouping = more.5 c.args.ways l.invariant.grouping (c.started.ensures.0 l.self.room l.invariant.grouping.inside);
    }
