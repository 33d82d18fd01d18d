use borrow.Author.Rules.{rules}
use mathlib.Core.Path.{ap₂}
use Prim.Native.Nat.{ℕ, ◌-◌, ◌^◌}
use native.Mathlib.Omega.{arith}
use lib.Bits.{bit_and}
use lib.ListN.{get_or}
use Rattle.bitset.proofs.UptoLaws.{changed_none, changed_here, changed_more}
use Rattle.sheet.proofs.TableLaws.{full_row_at, struck}
use Rattle.sheet.proofs.strike.Goals as goal

pub loop-i-init : goal.loop-i-init
loop-i-init c = changed_none 64 _ _ (search rules)

pub loop-i-preserved : goal.loop-i-preserved
loop-i-preserved c =
    let l = c.loop-i in
    let full = full_row_at c.args.n l.i c.requires.0 (omega (arith, c.requires.0)) c.full-full.ensures in
    let kept : ℕ = (2 ^ 64 - 1) - get_or c.transpose.new.words l.i 0 in
    let row = changed_here 0 l.invariant in
    changed_more _ l.invariant (omega (arith, c.requires.0)) (ap₂ (λ (f w : ℕ). bit_and f (bit_and w kept)) full row)

pub returns : goal.returns
returns c =
    let a = c.args in
    struck a.n a.rows.now a.barred.now c.requires.0 (omega arith) c.transpose.ensures c.requires.2 c.loop-i.invariant
