-- The words that `single_words` gathers of the rows tell which columns are empty and which have one member only. Assumes nothing.
use mathlib.Core.Path.{◌≡◌, sym, ap, ap₂, ◌∙◌}
use mathlib.Core.Logic.{⊎_elim}
use mathlib.Core.Bool.{Bool, true, false, not, ◌&&◌}
use mathlib.Core.List.{List}
use Prim.Native.Nat.{ℕ, ◌^◌, ◌≤◌, ◌<◌}
use native.Mathlib.Nat.{lt_of_lt_of_le}
use lib.Count.{ones}
use lib.Dec.{eqb, ltb}
use lib.ListN.{get_or}
use borrow.Author.Tests.{lt-ltb, le-ltb, eqb-false, ne_eqb, not-true, not-false}
use Rattle.bitset.specs.Sets.{has, any, set_of}
use Rattle.bitset.specs.Upto.{row}
use Rattle.bitset.proofs.BoolLaws.{iff, not_both, cases, is_false, and_l, cond_true}
use Rattle.bitset.proofs.QuantLaws.{below?, any_intro, any_elim, any_none, any_false, any_ext}
use Rattle.bitset.proofs.HasLaws.{has_zero, has_above}
use Rattle.bitset.proofs.SetLaws.{has_set_of, word_has, set_of_lt, eq_set_of}
use Rattle.circuit.specs.Legs.{leg, col, columns}
use Rattle.circuit.specs.State.{stray}
use Rattle.circuit.proofs.LegsLaws.{column_at}
use Rattle.circuit.proofs.StateLaws.{stray_row_lem}
use Rattle.filter.specs.declared.singles.Singles.{Singles}
use Rattle.filter.specs.inner.Singles.{single, holds, only, two, sole_in, SinglesOf}
use Rattle.filter.proofs.OneLaws.{two_ext, zero_is, single_is, some_is, two_is}

-- ---- a column, by the rows

pub col_has : (n : ℕ) (t : List ℕ) (j i : ℕ) → i < n → has (col n t j) i ≡ holds t j i
unfolding col leg
col_has n t j i l = has_set_of n (λ i. leg t i j) i l

pub col_below : (n : ℕ) (t : List ℕ) (j : ℕ) → col n t j < 2 ^ n
unfolding col
col_below n t j = set_of_lt n (λ i. leg t i j)

pub col_some : (n : ℕ) (t : List ℕ) (j : ℕ) → ltb 0 (col n t j) ≡ any n (holds t j)
col_some n t j = some_is n (col n t j) (col_below n t j) ∙ any_ext n (has (col n t j)) (holds t j) (col_has n t j)

pub col_two : (n : ℕ) (t : List ℕ) (j : ℕ) → two n (holds t j) ≡ ltb 1 (ones (col n t j))
col_two n t j = two_ext n (holds t j) (has (col n t j)) (λ i l. sym (col_has n t j i l)) ∙ two_is n (col n t j) (col_below n t j)

-- ---- what is gathered of the rows

module _ (n : ℕ) (t : List ℕ) (le : n ≤ 64) (clean : stray n t ≡ false) (next : Singles) (gn : SinglesOf n t next) where
  pub col_empty : (j : ℕ) → j < n → eqb (col n t j) 0 ≡ not (has next.reached j)
  col_empty j l = zero_is n (col n t j) (col_below n t j) ∙ ap not (any_ext n (has (col n t j)) (holds t j) (col_has n t j) ∙ sym (gn.reached j (lt_of_lt_of_le l le)))

  pub col_single : (j : ℕ) → j < n → sole_in next j ≡ single (col n t j)
  col_single j l =
      let low : j < 64 = lt_of_lt_of_le l le in
      ap₂ (λ (a b : Bool). a && not b) (gn.reached j low ∙ sym (any_ext n (has (col n t j)) (holds t j) (col_has n t j))) (gn.again j low ∙ two_ext n (holds t j) (has (col n t j)) (λ i h. sym (col_has n t j i h)))
      ∙ sym (single_is n (col n t j) (col_below n t j))

  -- no row has a member beyond n
  reached_above : (j : ℕ) → n ≤ j → j < 64 → has next.reached j ≡ false
  reached_above j g l = gn.reached j l ∙ any_none n (holds t j) (λ k lk. has_above n (get_or t k 0) j (stray_row_lem n t le clean k lk) g)

  -- some station is not reached
  pub unreached : next.reached < 2 ^ 64 → not (eqb next.reached (set_of 64 (λ j. ltb j n))) ≡ any n (λ k. not (has next.reached k))
  unreached fits = iff (not (eqb w full)) (any n out) there back
    where
      w : ℕ
      w = next.reached

      full : ℕ
      full = set_of 64 (λ j. ltb j n)

      out : ℕ → Bool
      out k = not (has next.reached k)

      there : not (eqb w full) ≡ true → any n out ≡ true
      there e =
          ⊎_elim (λ (q : any n out ≡ true). q)
          (λ (q : any n out ≡ false).
          absurd (eqb-false w full (not-true (eqb w full) e) (eq_set_of 64 w (λ j. ltb j n) fits (λ j l. ⊎_elim
          (λ (m : j < n). not-false (has w j) (any_false n out j q m) ∙ sym (lt-ltb j n m))
          (λ (g : n ≤ j). reached_above j g l ∙ sym (le-ltb j n g)) (below? j n))))) (cases (any n out))

      back : any n out ≡ true → not (eqb w full) ≡ true
      back e =
          let f = any_elim n out e in
          let low : f.0 < 64 = lt_of_lt_of_le f.1 le in
          ap not (ne_eqb w full (λ (x : w ≡ full). not_both (ap (λ (v : ℕ). has v f.0) x ∙ has_set_of 64 (λ j. ltb j n) f.0 low ∙ lt-ltb f.0 n f.1) (not-true (has w f.0) f.2)))

  -- the stations with one leg in
  pub sole_is : (sole : ℕ) → sole ≡ set_of 64 (sole_in next) → (k : ℕ) → k < 64 → has sole k ≡ ltb k n && single (row (columns n t) k)
  sole_is sole alone k l = word_has 64 (sole_in next) alone k l ∙ ⊎_elim inside beyond (below? k n)
    where
      inside : k < n → sole_in next k ≡ ltb k n && single (row (columns n t) k)
      inside m = col_single k m ∙ sym (ap₂ (λ (b : Bool) (w : ℕ). b && single w) (lt-ltb k n m) (column_at n t le k m))

      beyond : n ≤ k → sole_in next k ≡ ltb k n && single (row (columns n t) k)
      beyond g = ap (λ (b : Bool). b && not (has next.again k)) (reached_above k g l) ∙ sym (ap (λ (b : Bool). b && single (row (columns n t) k)) (le-ltb k n g))

  -- ---- no station has one leg only

  pub row_many : next.once ≡ 0 → (k : ℕ) → k < n → single (row t k) ≡ false
  row_many none k l = is_false (single (row t k)) (λ e. let f = member e in not_both (told f.0 f.1 f.2 e) (ap (λ (w : ℕ). has w f.0) none ∙ has_zero f.0))
    where
      low : row t k < 2 ^ n
      low = stray_row_lem n t le clean k l

      member : single (row t k) ≡ true → (j : ℕ) × (j < n) × (has (row t k) j ≡ true)
      member e = any_elim n (has (row t k)) (and_l (any n (has (row t k))) (not (two n (has (row t k)))) (sym (single_is n (row t k) low) ∙ e))

      told : (j : ℕ) → j < n → has (row t k) j ≡ true → single (row t k) ≡ true → has next.once j ≡ true
      told j lj h e = gn.once j (lt_of_lt_of_le lj le) ∙ any_intro n (only t j) k l (ap (λ (w : ℕ). has w j) (cond_true (row t k) 0 e) ∙ h)

  pub col_many : (sole : ℕ) → sole ≡ set_of 64 (sole_in next) → sole ≡ 0 → (k : ℕ) → k < n → single (row (columns n t) k) ≡ false
  col_many sole alone none k l =
      sym (sole_is sole alone k (lt_of_lt_of_le l le) ∙ ap (λ (b : Bool). b && single (row (columns n t) k)) (lt-ltb k n l)) ∙ ap (λ (w : ℕ). has w k) none ∙ has_zero k
