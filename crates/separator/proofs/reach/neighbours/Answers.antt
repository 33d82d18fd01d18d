use mathlib.Core.Path.{◌≡◌, sym, ap, ◌∙◌}
use mathlib.Core.List.{List}
use Prim.Native.Nat.{ℕ, ◌<◌}
use native.Mathlib.Omega.{arith}
use lib.Bits.{bit_or}
use lib.ListN.{length-replicate, get_or-replicate}
use borrow.Author.Tests.{lt-ltb, le-ltb}
use Rattle.bitset.specs.Upto.{row}
use Rattle.bitset.proofs.BoolLaws.{cond_true, cond_false}
use Rattle.bitset.proofs.UptoLaws.{changed_none, changed_more, changed_end, get_d_upto}
use Rattle.circuit.specs.Legs.{col, table_of}
use Rattle.separator.proofs.NeighbourLaws.{neighbours_of}
use Rattle.separator.proofs.reach.neighbours.Goals as goal

pub loop-i-init : goal.loop-i-init
loop-i-init c = changed_none 64 _ _ (length-replicate {A = ℕ} 64 0)

pub loop-i-preserved : goal.loop-i-preserved
loop-i-preserved c =
    let l = c.loop-i in
    let a = c.args in
    let rows : List ℕ = a.rows.now in
    let below : l.i < a.n = omega arith in
    let low : l.i < 64 = omega arith in
    let column : row a.cols.now l.i ≡ col a.n rows l.i =
    ap (λ (x : List ℕ). row x l.i) c.requires.2 ∙ get_d_upto 64 (col a.n rows) 0 l.i low
    in
    changed_more _ l.invariant low
    (ap (bit_or (row rows l.i)) column ∙ neighbours_of a.n l.i rows (c.requires.1 l.i below) ∙ sym (cond_true _ 0 (lt-ltb l.i a.n below)))

pub returns : goal.returns
unfolding table_of
returns c =
    let l = c.loop-i in
    let n : ℕ = c.args.n in
    changed_end 0 l.invariant (λ k g m. get_or-replicate {A = ℕ} 64 k 0 0 m ∙ sym (cond_false _ 0 (le-ltb k n (omega arith))))
