use mathlib.Core.Path.{◌≡◌, ap, ◌∙◌}
use Prim.Native.Nat.{ℕ}
use native.Mathlib.Omega.{arith}
use Rattle.bitset.specs.Sets.{set_of}
use Rattle.filter.specs.Chain.{nexts, joined}
use Rattle.filter.proofs.WalkLaws.{walked_start, walked_turn, walked_out}
use Rattle.filter.proofs.chaining.joined_from.Goals as goal

pub loop-k-init : goal.loop-k-init
loop-k-init c = (c.requires, walked_start _ _)

pub returns-then-w-eq0 : goal.returns-then-w-eq0
returns-then-w-eq0 c =
    let v = c.loop-k in
    let a = c.args in
    λ n. walked_out a.legs.now a.a v._k v.at v.met v.invariant.1 a.most n (omega arith) (omega arith)

pub loop-k-preserved : goal.loop-k-preserved
loop-k-preserved c =
    let v = c.loop-k in
    let t = c.lowest-at in
    (t.ensures.1.below, walked_turn _ _ v._k v.at v.met v.invariant.1 t.result (omega arith) t.ensures.0)

pub returns : goal.returns
returns c =
    let v = c.loop-k in
    let a = c.args in
    let at-end : v._k ≡ a.most = omega arith in
    λ n le l sq. (v.invariant.1 n le l sq).2 ∙ ap (λ (k : ℕ). set_of n (joined n (nexts n a.legs.now) k a.a)) at-end
