use mathlib.Core.Path.{◌≡◌, refl, ap, ◌∙◌}
use Prim.Native.Nat.{ℕ, ◌-◌, ◌^◌}
use native.Mathlib.Omega.{arith}
use lib.Bits.{bit_and}
use Rattle.bitset.specs.Upto.{row}
use Rattle.bitset.proofs.MachineLaws.{shl_next}
use Rattle.circuit.specs.inner.Tables.{some}
use Rattle.circuit.proofs.LegsLaws.{full_row_lem}
use Rattle.circuit.proofs.StrayLaws.{tells_none, tells_more, stray_test}
use Rattle.circuit.proofs.table.stray_within.Goals as goal

pub loop-i-init : goal.loop-i-init
loop-i-init c = let a = c.args in (λ _. refl, tells_none a.n a.rows.now)

pub loop-i-preserved : goal.loop-i-preserved
loop-i-preserved c =
    let v = c.loop-i in
    let a = c.args in
    let own : v.own ≡ 2 ^ v.i = v.invariant.0 (omega arith) in
    let legs : ℕ = row a.rows.now v.i in (
      shl_next 64 v.i v.own own,
      tells_more a.n a.rows.now v.i v.found _ v.invariant.1
          (ap (λ (f : ℕ). some (bit_and legs ((2 ^ 64 - 1) - f))) (full_row_lem a.n v.i _ _ c.requires (omega arith) c.full-all.ensures own)
          ∙ stray_test a.n v.i legs c.requires (c.fits-rows v.i)),
    )
