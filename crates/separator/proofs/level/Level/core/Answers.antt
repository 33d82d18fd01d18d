-- `Level::core` meets its contract. Assumes nothing.
use mathlib.Core.Path.{ap, ap₂, ◌∙◌}
use mathlib.Core.List.{List}
use Prim.Native.Nat.{ℕ}
use native.Mathlib.Omega.{arith}
use lib.Count.{count_trailing_zeros}
use Rattle.bitset.specs.inner.Members.{Least}
use Rattle.bitset.proofs.LeastLaws.{trailing_least}
use Rattle.bitset.proofs.MachineLaws.{shl_one}
use Rattle.circuit.specs.Legs.{leg}
use Rattle.separator.specs.Components.{grow}
use Rattle.separator.proofs.StandLaws.{columns_64}
use Rattle.separator.proofs.CoreLaws.{core_none, core_from}
use Rattle.separator.proofs.level.Level.core.Goals.{Else-part-eq0}
use Rattle.separator.proofs.level.Level.core.Goals as goal

-- the lowest station of the component
lowest : (c : Else-part-eq0) → Least 64 c.args.part (count_trailing_zeros 64 c.args.part)
lowest c = trailing_least 64 c.args.part (omega arith) c.ranges.part.fits

pub returns-then-part-eq0 : goal.returns-then-part-eq0
returns-then-part-eq0 c = core_none _ _

pub returns : goal.returns
returns c =
    let a = c.args in
    let net = a.self.now.net.now in
    let t = net.rows in
    let x : ℕ = count_trailing_zeros 64 a.part in
    let first = shl_one 64 x (lowest (goal.at.returns c).Else-part-eq0).below in
    let led = c.led_from-led.ensures in
    core_from t a.part x c.ranges.part.fits (lowest (goal.at.returns c).Else-part-eq0).member _
    (led.all ∙ ap (grow 64 64 (leg t) a.part) first)
    (c.grown.ensures ∙ ap₂ (λ (u : List ℕ) (v : ℕ). grow 64 64 (leg u) a.part v) (net.columned.columns ∙ columns_64 net.n t net.most net.columned.clean) first)
    led.beyond
