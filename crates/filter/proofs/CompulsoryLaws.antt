-- The compulsory legs of the rows are the table of the definitions. Assumes nothing.
use mathlib.Core.Path.{◌≡◌, refl, sym, ap, ap₂, ◌∙◌}
use mathlib.Core.Logic.{⊎_elim}
use mathlib.Core.Bool.{Bool, false, cond, ◌&&◌, ◌||◌}
use mathlib.Core.List.{List}
use Prim.Native.Nat.{ℕ, ◌^◌, ◌≤◌, ◌<◌}
use native.Mathlib.Nat.{lt_of_lt_of_le}
use native.Mathlib.Omega.{arith}
use lib.Bits.{bit_and, and_le_l}
use lib.Dec.{eqb, ltb}
use borrow.Author.Tests.{lt-ltb, le-ltb}
use Rattle.bitset.specs.Sets.{has, set_of}
use Rattle.bitset.specs.Upto.{row}
use Rattle.bitset.proofs.BoolLaws.{cond_true, cond_false, cond_elim, taut3}
use Rattle.bitset.proofs.HasLaws.{has_and}
use Rattle.bitset.proofs.QuantLaws.{below?}
use Rattle.bitset.proofs.SetLaws.{eq_set_of}
use Rattle.bitset.proofs.UptoLaws.{get_d_upto, upto_cong}
use Rattle.circuit.specs.Legs.{leg, columns, table_of}
use Rattle.circuit.specs.State.{stray}
use Rattle.circuit.specs.inner.Tables.{Square}
use Rattle.circuit.proofs.LegsLaws.{column_leg, columns_square}
use Rattle.circuit.proofs.StateLaws.{stray_row_lem}
use Rattle.filter.specs.Chain.{compulsory, compulsories}
use Rattle.filter.specs.inner.Chains.{compulsory_word, compulsory_words}
use Rattle.filter.specs.inner.Singles.{single}
use Rattle.filter.proofs.OneLaws.{only_bit}

-- ---- a word

-- the leg between two stations by the words v and w of both; it is the only one of the word v, or of the word w
word_bit : (n v w sole i j : ℕ) → v < 2 ^ n → w < 2 ^ n → i < n → j < n → has v j ≡ has w i → has sole j ≡ single w
    → has (compulsory_word v sole) j ≡ eqb v (2 ^ j) || eqb w (2 ^ i)
word_bit n v w sole i j hv hw li lj e f =
    cond_elim (λ (x : ℕ). has x j ≡ cond (single v) (has v j) (has v j && has sole j)) (single v) v (bit_and v sole) (λ q. sym (cond_true _ _ q)) (λ q. has_and v sole j ∙ sym (cond_false _ _ q))
    ∙ taut3 (λ a b c. cond a b (b && c)) (λ a b c. b && a || b && c) refl (single v) (has v j) (has sole j)
    ∙ ap₂ (λ (a b : Bool). a || b) (sym (only_bit n v j hv lj)) (ap₂ (λ (a b : Bool). a && b) e f ∙ sym (only_bit n w i hw li))

word_lt : (n v sole : ℕ) → v < 2 ^ n → compulsory_word v sole < 2 ^ n
word_lt n v sole h = cond_elim (λ (x : ℕ). x < 2 ^ n) (single v) v (bit_and v sole) (λ _. h) (λ _. omega (arith, and_le_l v sole))

-- ---- the table

module _ (n : ℕ) (t : List ℕ) (sole : ℕ) where
  -- its row i
  abbrev word_at : ℕ → ℕ
  word_at i = cond (ltb i n) (compulsory_word (row t i) sole) 0

  module _ (le : n ≤ 64) where
    pub words_at : (i : ℕ) → i < n → row (compulsory_words n t sole) i ≡ compulsory_word (row t i) sole
    words_at i l = get_d_upto 64 word_at 0 i (lt_of_lt_of_le l le) ∙ cond_true _ 0 (lt-ltb i n l)

    pub words_square : Square n t → Square n (compulsory_words n t sole)
    words_square sq i l = omega (arith, words_at i l, word_lt n (row t i) sole (sq i l))

    pub words_beyond : (i : ℕ) → n ≤ i → i < 64 → row (compulsory_words n t sole) i ≡ 0
    words_beyond i g l = get_d_upto 64 word_at 0 i l ∙ cond_false _ 0 (le-ltb i n g)

    module _ (clean : stray n t ≡ false) (is : (k : ℕ) → k < 64 → has sole k ≡ ltb k n && single (row (columns n t) k)) where
      abbrev c : List ℕ
      c = columns n t

      row_is : (i : ℕ) → i < n → compulsory_word (row t i) sole ≡ set_of n (compulsory t c i)
      unfolding compulsory leg
      row_is i l =
          eq_set_of n (compulsory_word (row t i) sole) (compulsory t c i) (word_lt n (row t i) sole (stray_row_lem n t le clean i l))
          (λ j lj. word_bit n (row t i) (row c j) sole i j (stray_row_lem n t le clean i l) (columns_square n t le j lj) l lj (sym (column_leg n t le i j l lj)) (is j (lt_of_lt_of_le lj le) ∙ ap (λ (b : Bool). b && single (row c j)) (lt-ltb j n lj)))

      pub compulsory_rows : compulsory_words n t sole ≡ compulsories n t
      unfolding compulsories table_of
      compulsory_rows = upto_cong 64 word_at (λ i. cond (ltb i n) (set_of n (compulsory t c i)) 0) (λ i l. ⊎_elim (inside i) (beyond i) (below? i n))
        where
          inside : (i : ℕ) → i < n → word_at i ≡ cond (ltb i n) (set_of n (compulsory t c i)) 0
          inside i l = ap (λ (w : ℕ). cond (ltb i n) w 0) (row_is i l)

          beyond : (i : ℕ) → n ≤ i → word_at i ≡ cond (ltb i n) (set_of n (compulsory t c i)) 0
          beyond i g = cond_false _ 0 (le-ltb i n g) ∙ sym (cond_false _ 0 (le-ltb i n g))
