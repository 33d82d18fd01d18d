use mathlib.Core.Path.{◌≡◌, refl}
use Prim.Native.Nat.{ℕ, suc, zero, ◌-◌, ◌^◌, ◌≤◌, ◌<◌}
use native.Mathlib.Nat.{sub-zero}
use native.Mathlib.Omega.{arith}
use lib.ListN.{get_or}
use lib.Pow.{pow_mono}
use Rattle.bitset.specs.Sets.{bit, digit, has, set_of}
use Rattle.bitset.proofs.MachineLaws.{shl_one}
use Rattle.circuit.specs.declared.transposition.TheConstants.{CLEAR_AT}
use Rattle.circuit.specs.inner.Columns.{clear_at}
use Rattle.circuit.proofs.ColumnLaws.{squares_fit, turned_down, turned_none, turned_columns}
use Rattle.circuit.proofs.transposition.transpose.Goals as goal

-- each mask is computed
mask_at : (b : ℕ) → b < 6 → get_or CLEAR_AT b 0 ≡ clear_at b
unfolding clear_at set_of has bit digit
mask_at zero l = refl
mask_at (suc zero) l = refl
mask_at (suc (suc zero)) l = refl
mask_at (suc (suc (suc zero))) l = refl
mask_at (suc (suc (suc (suc zero)))) l = refl
mask_at (suc (suc (suc (suc (suc zero))))) l = refl
mask_at (suc (suc (suc (suc (suc (suc b)))))) l = absurd (omega arith)

pub loop-b-init : goal.loop-b-init
loop-b-init c =
    let s = c in
    (turned_none s.args.n s.args.words.now s.requires.0 s.requires.1 64 (2 ^ (c.digits-used.result - 6)) 1 s.requires.0, λ g. refl)

pub swap_quarters-requires : goal.swap_quarters-requires
swap_quarters-requires c =
    let v = c.loop-b in
    let b : ℕ = v.b - 1 in
    let k : ℕ = c.digits-used.result - 1 - b in
    rw (shl_one 64 b (omega arith), shl_one 64 k (omega arith)) (pow_mono {j = 5} (omega arith), squares_fit k b (omega arith))

pub loop-b-preserved-then-b-used : goal.loop-b-preserved-then-b-used
loop-b-preserved-then-b-used c =
    let v = c.loop-b in
    let b : ℕ = v.b - 1 in
    let k : ℕ = c.digits-used.result - 1 - b in
    let w = rw (shl_one 64 b (omega arith), shl_one 64 k (omega arith), mask_at b (omega arith)) at c.swap_quarters.ensures in
    (turned_down {b = b} {k = k} (omega arith) (omega arith) (omega arith) (omega arith) v.invariant.0 w, λ g. absurd (omega arith))

pub loop-b-preserved : goal.loop-b-preserved
loop-b-preserved c =
    let v = c.loop-b in
    let d = c.digits-used in
    let s = c in
    let b : ℕ = v.b - 1 in
    let e = v.invariant.1 (omega arith) in
    let most : 2 ^ d.result ≤ 2 ^ b = pow_mono {i = d.result} {j = b} (omega arith) in
    (rw e (turned_none s.args.n s.args.words.now s.requires.0 s.requires.1 (2 ^ b) (2 ^ (d.result - b)) (2 ^ (6 - b)) (omega arith)), λ g. e)

pub returns : goal.returns
returns c =
    let v = c.loop-b in
    let d = c.digits-used in
    let s = c in
    let e : v.b ≡ 0 = omega arith in
    turned_columns s.args.n s.args.words.now s.requires.0 s.requires.1 (2 ^ d.result) v.words d.ensures.1 (rw (e, sub-zero) at v.invariant.0)
