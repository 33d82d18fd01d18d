use mathlib.Core.Path.{◌≡◌, refl, ap, ◌∙◌}
use mathlib.Core.Bool.{◌&&◌}
use mathlib.Core.List.{List, ◌++◌}
use Prim.Native.Nat.{ℕ, ◌<◌}
use native.Mathlib.Omega.{arith}
use lib.Bits.{bit_and}
use lib.ListN.{get_or, set, drop}
use lib.Seq.{set-get_or}
use borrow.Author.Tests.{eqb-true, not-false}
use Rattle.std.proofs.lemmas.List.{length-take-le, get_or-take, take-append-drop}
use Rattle.bitset.specs.Sets.{has}
use Rattle.bitset.proofs.BoolLaws.{or_false_l, or_false_r}
use Rattle.bitset.proofs.UptoLaws.{changed_none, changed_here, changed_more, changed_all}
use Rattle.filter.specs.inner.Singles.{keeps}
use Rattle.filter.proofs.SweptLaws.{swept_part, swept_in, swept_row_lem}
use Rattle.filter.proofs.sweeping.sweep_words.Goals as goal

pub loop-row-init : goal.loop-row-init
loop-row-init c = (changed_none _ _ _ (omega (arith, c.requires.0, c.told-rows, length-take-le {A = ℕ})), λ _. refl)

pub loop-row-preserved : goal.loop-row-preserved
loop-row-preserved c =
    let v = c.loop-row in
    let a = c.args in
    let r = c.swept_row-left in
    let i = v.row-index in
    let low : i < a.n = omega (arith, c.requires.0, c.told-rows, length-take-le {A = ℕ}) in (
      changed_more r.result v.invariant.0 low
          (swept_in a.n a.rows.now i r.result low
          (swept_row_lem a.n a.rows.now c.requires.0 c.requires.1 a.next c.requires.2 a.sole c.requires.3 i r.result low r.type_inv
          (λ j l. r.ensures j l ∙ ap (λ (w : ℕ). has w j && keeps a.next (bit_and w a.sole) w j) (changed_here 0 v.invariant.0 ∙ get_or-take a.n a.rows.now i 0 low)))),
      λ e.
          let same : r.result ≡ get_or v.row-items i 0 = eqb-true r.result (get_or v.row-items i 0) (not-false _ (or_false_r v.struck _ e)) in
          ap (set v.row-items i) same ∙ set-get_or v.row-items i 0 ∙ v.invariant.1 (or_false_l v.struck _ e),
    )

pub returns : goal.returns
returns c =
    let v = c.loop-row in
    let a = c.args in (
      swept_part a.n a.rows.now c.requires.0 c.requires.1 c.told-rows v.row-items (changed_all v.invariant.0 (omega (arith, c.requires.0, c.told-rows, length-take-le {A = ℕ}))),
      λ e. ap (λ (l : List ℕ). l ++ drop a.n a.rows.now) (v.invariant.1 e) ∙ take-append-drop a.n a.rows.now,
    )
