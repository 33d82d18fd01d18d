-- `roads::Search::roads_across` meets its contract. Assumes nothing.
use mathlib.Core.Path.{◌≡◌, ap, ◌∙◌, subst}
use mathlib.Core.Logic.{⊎_elim}
use Prim.Native.Nat.{ℕ, ◌-◌, ◌^◌, ◌<◌}
use native.Mathlib.Omega.{arith}
use lib.Pow.{pow_pos}
use Rattle.circuit.specs.Legs.{leg}
use Rattle.roads.specs.Cut.{cut_size}
use Rattle.roads.specs.inner.Promises.{Capped}
use Rattle.roads.proofs.CountLaws.{capped_size, roads_none, roads_some}
use Rattle.roads.proofs.SplitLaws.{split_zero, split_full, split_other}
use Rattle.roads.proofs.FoundLaws.{size_rest}
use Rattle.roads.proofs.sums.Search.roads_across.Goals as goal

pub returns-then-x-eq0 : goal.returns-then-x-eq0
returns-then-x-eq0 c = roads_none (split_zero c.args.self.now.n c.args.x c.if-x-eq0.true)

pub returns-then-other-eq0 : goal.returns-then-other-eq0
returns-then-other-eq0 c = let s = c.args.self.now in
    let e : c.args.x ≡ 2 ^ s.n - 1 = omega (arith, s.whole, c.requires, c.if-other-eq0.true) in
    roads_none (split_full s.n c.args.x e)

pub returns : goal.returns
returns c =
    let s = c.args.self.now in
    let p = s.profile in
    let x : ℕ = c.args.x in
    let from : ℕ = c.smaller.result in
    let size : ℕ → ℕ = cut_size s.n (leg s.rows.now) in
    let other : ℕ = (2 ^ s.n - 1) - x in
    let side : (from < 2 ^ s.n) × (size from ≡ size x) =
    ⊎_elim (λ (e : from ≡ x). (omega (arith, e, c.requires), ap size e))
    (λ e. let q : from ≡ other = e ∙ ap (λ (w : ℕ). w - x) s.whole in
    (omega (arith, q, pow_pos s.n), ap size q ∙ size_rest s.n (leg s.rows.now) p.two.both x c.requires))
    c.smaller.ensures in
    roads_some (split_other s.n x c.requires c.if-x-eq0.false (λ e. c.if-other-eq0.false (omega (arith, e, s.whole))))
    (subst (λ (k : ℕ). Capped k c.crossing.result) side.1 (capped_size s.n s.rows.now from c.crossing.result p.most p.table.square side.0 c.crossing.ensures))
