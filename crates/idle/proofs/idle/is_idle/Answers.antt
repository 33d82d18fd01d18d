use Prim.Native.Nat.{ℕ, ◌-◌}
use native.Mathlib.Omega.{arith}
use Rattle.idle.proofs.FallingLaws.{falling_start, falling_spans, falling_turn, falling_end, strong_all, level_told}
use Rattle.idle.proofs.PlaceLaws.{Levelled, levelled}
use Rattle.idle.proofs.idle.is_idle.Goals.{Start, else-s-limit-via-then-s-limit+else-not-leaves_level, else-s-limit-via-else-s-limit}
use Rattle.idle.proofs.idle.is_idle.Goals as goal

-- the levels of the seed
levels_of : (c : Start) → let a = c.args in Levelled a.net.now.n a.net.now.rows a.seed a.found.now.level a.found.now.count
levels_of c = let a = c.args in levelled a.net.now.n a.net.now.rows a.seed a.found.now.level a.found.now.count c.requires.0 (omega arith) c.requires.2 c.requires.3

pub rise-requires : goal.rise-requires
rise-requires c = (omega (arith, c.requires.0, c.args.net.now.most), omega arith, omega arith, (levels_of (goal.at.rise-requires c).Start).first)

pub loop-k-init : goal.loop-k-init
loop-k-init c =
    falling_start (c.none-groups.ensures.1 (record { net = c.args.net; nbr = c.args.nbr; linked = c.requires.1 })) c.none-groups.ensures.0
    (c.args.found.now.count - 1) (omega arith)

pub regroup-requires : goal.regroup-requires
regroup-requires c = c.loop-k.invariant.grouping

pub leaves_level-requires : goal.leaves_level-requires
leaves_level-requires c =
    let l = c.loop-k in
    let (w, S, P) = c.rise.ensures.0 (l.k - 1) (omega arith) (omega (arith, l.invariant.low)) in
    ((λ x e. (P.tail x e).0), λ x e. (P.head x e).0)

pub loop-k-preserved : goal.loop-k-preserved
loop-k-preserved c =
    let l = c.loop-k in
    let a = c.args in
    let k : ℕ = l.k - 1 in
    let L = levels_of (goal.at.loop-k-preserved c).Start in
    let (G, room) = c.regroup.ensures in
    let (w, S, all) = c.rise.ensures.1 c.if-not-rise.false in
    falling_turn l.invariant k (omega arith) G room
    (λ few.
    elim c.else-s-limit.branch [
      | else-s-limit-via-then-s-limit+else-not-leaves_level b ↦
          let told = b.leaves_level.ensures in
          let settled = told.3 b.if-not-leaves_level.false in
          level_told a.net.now a.nbr.now c.requires.1 L k (omega arith) (omega (arith, l.invariant.low)) c.regroup.new.self
          (falling_spans l.invariant k (omega arith) c.regroup.new.self room) G (omega arith) _ (c.rise.ensures.0 k (omega arith) (omega (arith, l.invariant.low)))
          _ _ (λ g h. told.0 g h _ _ _ _) told.1 told.2 (strong_all a.net.now a.nbr.now c.requires.1 L w S all) settled.0 settled.1
      | else-s-limit-via-else-s-limit b ↦ absurd (let z : ⊥ = omega (arith, few, b.if-s-limit.false) in z)
    ])

pub returns : goal.returns
returns c =
    let l = c.loop-k in
    λ e. falling_end l.invariant (omega arith) (levels_of (goal.at.returns c).Start) (omega arith) c.requires.2
