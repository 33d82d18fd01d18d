-- `roads::Search::judge` meets its contract. Assumes nothing.
use borrow.Author.Rules.{rules}
use mathlib.Core.Path.{◌≡◌}
use native.Mathlib.Omega.{arith}
use Rattle.std.specs.Prelude.{Some}
use Rattle.circuit.specs.Legs.{leg}
use Rattle.roads.specs.Cut.{cut_size}
use Rattle.roads.specs.inner.Promises.{Capped, RoadsOf}
use Rattle.roads.proofs.CountLaws.{capped_size, capped_is, capped_not}
use Rattle.roads.proofs.JudgeLaws.{judge_many, judge_low, judge_two, judge_three, judge_drop, judge_quiet, few}
use Rattle.roads.proofs.sums.Search.judge.Goals.{After-crossing-m}
use Rattle.roads.proofs.sums.Search.judge.Goals as goal

pub returns-in_default : goal.returns-in_default
returns-in_default c = judge_many c.args.self.now.profile _ _ c.in_default.ensures

pub returns-then-few : goal.returns-then-few
returns-then-few c = judge_low c.args.self.now.profile _ _ c.in-Some.ensures c.if-few.true

pub returns-then-k-eq2 : goal.returns-then-k-eq2
returns-then-k-eq2 c = judge_two c.args.self.now.profile _ _ c.in-Some.ensures _ c.if-k-eq2.true c.mark.ensures

-- the must-drive roads of a split with three roads
must_roads : (c : After-crossing-m) → Capped (cut_size c.args.self.now.n (leg c.args.self.now.must.now) c.args.x) c.crossing-m.result
must_roads c = let s = c.args.self.now in
    capped_size s.n s.must.now c.args.x c.crossing-m.result s.profile.most s.profile.must_table.square c.requires c.crossing-m.ensures

three : (c : After-crossing-m) → c.in-Some.k ≡ 3
three c = let r : RoadsOf c.args.self.now.n (leg c.args.self.now.rows.now) c.args.x (Some c.in-Some.k) = c.in-Some.ensures in
    omega (arith, c.if-k-eq2.false, c.if-few.false, few c.args.self.now.profile c.args.marks.now c.args.x r)

pub returns-then-eq : goal.returns-then-eq
returns-then-eq c = let b = (goal.at.returns-then-eq c).After-crossing-m in
    let e : c.crossing-m.result ≡ Some 3 = search rules in
    judge_three c.args.self.now.profile _ _ c.in-Some.ensures (three b) (capped_is _ 3 (must_roads b) e)

pub returns-then-both : goal.returns-then-both
returns-then-both c = let b = (goal.at.returns-then-both c).After-crossing-m in
    let e : c.crossing-m.result ≡ Some 2 = search rules in
    judge_drop c.args.self.now.profile _ _ c.in-Some.ensures _ _ (three b) (capped_is _ 2 (must_roads b) e) c.args.self.now.others c.mark-then-both.ensures

pub returns-else-both : goal.returns-else-both
returns-else-both c = let b = (goal.at.returns-else-both c).After-crossing-m in
    let e : c.crossing-m.result ≡ Some 2 → ⊥ = search rules in
    let f : c.crossing-m.result ≡ Some 3 → ⊥ = search rules in
    judge_quiet c.args.self.now.profile _ _ c.in-Some.ensures (three b) (capped_not _ 2 _ (must_roads b) (omega arith) e) (capped_not _ 3 _ (must_roads b) (omega arith) f)
