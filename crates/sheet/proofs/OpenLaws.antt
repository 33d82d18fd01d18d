-- Opening in the steps of the code: the limit, the first byte, then the records. Assumes nothing.
use mathlib.Core.Path.{◌≡◌, ap, ◌∙◌}
use mathlib.Core.Bool.{true, false}
use mathlib.Core.List.{List, [], ◌∷◌}
use Prim.Native.Nat.{ℕ, ◌-◌, ◌≤◌, ◌<◌}
use native.Mathlib.Nat.{not-suc-le-zero}
use native.Mathlib.Omega.{arith}
use lib.Dec.{eqb}
use lib.ListN.{length, get_or, drop}
use Rattle.bitset.specs.Sets.{outside}
use Rattle.circuit.specs.declared.card.Answer.TheVariants.{CutSheet, BadCount, BadLimit}
use Rattle.sheet.specs.Open.{read_rest, read_page, refused, opened, open_call}

pub nonempty : (s : List ℕ) → eqb (length s) 0 ≡ false → 1 ≤ length s
nonempty [] e = cc
nonempty (b ∷ s) e = omega arith

module _ (s : List ℕ) (limit : ℕ) where
  pub open_limit : outside 1 64 limit ≡ true → open_call s limit ≡ refused BadLimit 0
  unfolding open_call
  open_limit e = rw e

  module _ (e : outside 1 64 limit ≡ false) where
    open_page : open_call s limit ≡ opened (length s) limit (read_page s)
    unfolding open_call
    open_page = rw e

pub open_cut : (s : List ℕ) (limit : ℕ) → outside 1 64 limit ≡ false → length s < 1 → open_call s limit ≡ refused CutSheet 0
unfolding read_page opened
open_cut [] limit e l = open_page [] limit e
open_cut (b ∷ s) limit e l = absurd (let z : ⊥ = omega arith in z)

pub open_count : (s : List ℕ) (limit : ℕ) → outside 1 64 limit ≡ false → 1 ≤ length s → outside 2 64 (get_or s 0 0) ≡ true → open_call s limit ≡ refused BadCount 0
unfolding read_page opened
open_count [] limit e l f = absurd (not-suc-le-zero l)
open_count (n ∷ s) limit e l f =
    let none : length (n ∷ s) - length (n ∷ s) ≡ 0 = omega arith in
    open_page (n ∷ s) limit e ∙ rw f (ap (refused BadCount) none)

pub open_rest : (s : List ℕ) (limit : ℕ) → outside 1 64 limit ≡ false → 1 ≤ length s → outside 2 64 (get_or s 0 0) ≡ false
    → open_call s limit ≡ opened (length s) limit (read_rest (get_or s 0 0) (drop 1 s))
unfolding read_page
open_rest [] limit e l f = absurd (not-suc-le-zero l)
open_rest (n ∷ s) limit e l f = open_page (n ∷ s) limit e ∙ rw f
