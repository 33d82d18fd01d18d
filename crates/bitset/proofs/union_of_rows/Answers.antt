use mathlib.Core.Path.{◌≡◌, sym, ap, ◌∙◌}
use mathlib.Core.Bool.{Bool, ◌||◌, or-false, or_assoc}
use mathlib.Core.List.{List}
use Prim.Native.Nat.{ℕ, ◌-◌, ◌^◌, ◌<◌}
use native.Mathlib.Omega.{arith}
use lib.Bits.{bit_and, bit_or, and_le_l}
use lib.Count.{count_trailing_zeros}
use Rattle.bitset.specs.Sets.{has}
use Rattle.bitset.specs.Upto.{row}
use Rattle.bitset.specs.declared.Members.{Members}
use Rattle.bitset.proofs.HasLaws.{has_zero, has_or}
use Rattle.bitset.proofs.SetLaws.{eq_set_of}
use Rattle.bitset.proofs.MemberLaws.{any_least, any_empty}
use Rattle.bitset.proofs.union_of_rows.Invariants.{hit}
use Rattle.bitset.proofs.union_of_rows.Goals as goal

-- `out` takes in row i, and `others` has the members of `rest` but the least, which is i
turn : (rows : List ℕ) (rest out i others k : ℕ) → 0 < rest → rest < 2 ^ 64
    → i ≡ count_trailing_zeros 64 rest → others ≡ bit_and rest (rest - 1)
    → has (bit_or out (row rows i)) k || hit rows others k ≡ has out k || hit rows rest k
turn rows rest out i others k p h at less =
    let left : Bool = hit rows others k in
    ap (λ (x : Bool). x || left) (has_or out (row rows i) k)
    ∙ or_assoc (has out k) (has (row rows i) k) left
    ∙ ap (λ (x : Bool). has out k || x) (
    ap (λ (t : ℕ). has (row rows t) k || hit rows others k) at
    ∙ ap (λ (v : ℕ). has (row rows (count_trailing_zeros 64 rest)) k || hit rows v k) less
    ∙ sym (any_least 64 rest (λ t. has (row rows t) k) p h))

pub loop-i-init : goal.loop-i-init
loop-i-init c =
    let same = ap (λ (m : Members). m.rest) c.into_iter-i-iterator.ensures.into_iter_gives ∙ c.of-i-items.ensures in (
      omega (arith, same),
      λ k l. ap (λ (x : Bool). x || hit c.args.rows.now c.into_iter-i-iterator.result.rest k) (has_zero k)
          ∙ ap (λ (s : ℕ). hit c.args.rows.now s k) same,
    )

pub loop-i-preserved : goal.loop-i-preserved
loop-i-preserved c =
    let l = c.loop-i in
    let step = c.in-Some.ensures.steps in (
      omega (arith, step.others, and_le_l l.i-iterator.rest (l.i-iterator.rest - 1)),
      λ k b. turn c.args.rows.now l.i-iterator.rest l.out c.in-Some.i c.next.new.self.rest k step.nonempty l.invariant.0 step.least step.others ∙ l.invariant.1 k b,
    )

pub returns : goal.returns
returns c =
    let inv = c.loop-i.invariant in
    let rows : List ℕ = c.args.rows.now in
    let out : ℕ = c.loop-i.out in
    eq_set_of 64 out (hit rows c.args.set) c.loop-i.auto.out-fits.fits
    (λ k l. sym (or-false (has out k)) ∙ ap (λ (x : Bool). has out k || x) (sym (any_empty 64 (λ i. has (row rows i) k)))
    ∙ ap (λ (s : ℕ). has out k || hit rows s k) (sym c.in-None.ensures.steps.0) ∙ inv.1 k l)
