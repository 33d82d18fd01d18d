-- `bitset::full` meets its contract. Assumes nothing.
use mathlib.Core.Path.{◌≡◌, ◌∙◌, ap, sym}
use Prim.Native.Nat.{ℕ, ◌-◌, ◌^◌}
use native.Mathlib.Omega.{arith}
use Rattle.bitset.proofs.MachineLaws.{shl_one, full_set_of}
use Rattle.bitset.proofs.full.Goals as goal

pub returns-then-n-lt64 : goal.returns-then-n-lt64
returns-then-n-lt64 c = ap (λ (x : ℕ). x - 1) (shl_one 64 c.args.n c.if-n-lt64.true) ∙ full_set_of 64 c.args.n c.requires

pub returns-else-n-lt64 : goal.returns-else-n-lt64
returns-else-n-lt64 c =
    let n : ℕ = c.args.n in
    let e : n ≡ 64 = omega arith in
    ap (λ (x : ℕ). 2 ^ x - 1) (sym e) ∙ full_set_of 64 n c.requires
