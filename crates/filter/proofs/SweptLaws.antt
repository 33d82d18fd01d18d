-- The words that `single_words` gathers of the rows say what the sweep's rule says of the rows and of the columns. Assumes nothing.
use mathlib.Core.Path.{◌≡◌, refl, sym, ap, ap₂, ◌∙◌}
use mathlib.Core.Logic.{⊎_elim}
use mathlib.Core.Bool.{Bool, true, false, not, cond, ◌&&◌, ◌||◌, and-false}
use mathlib.Core.List.{List, ◌++◌}
use Prim.Native.Nat.{ℕ, ◌+◌, ◌-◌, ◌^◌, ◌≤◌, ◌<◌}
use native.Mathlib.Nat.{lt_of_lt_of_le}
use native.Mathlib.Omega.{arith}
use lib.Bits.{bit_and, and_le_l}
use lib.Dec.{eqb, ltb}
use lib.ListN.{length, get_or, drop, length-append, get_or-append}
use lib.Pow.{pow_mono}
use borrow.Author.Tests.{lt-ltb, le-ltb}
use Rattle.std.proofs.lemmas.List.{length-drop, get_or-drop, get_or-append_right}
use Rattle.bitset.specs.Sets.{has, any, set_of}
use Rattle.bitset.specs.Upto.{upto, row}
use Rattle.bitset.proofs.BoolLaws.{clash, cases, or_none, cond_true, cond_false, taut2}
use Rattle.bitset.proofs.QuantLaws.{below?, any_intro, any_none, any_ext, any_or}
use Rattle.bitset.proofs.HasLaws.{has_zero, has_above, has_and, ext}
use Rattle.bitset.proofs.SetLaws.{has_set_of, word_has, set_of_lt, set_of_above}
use Rattle.bitset.proofs.UptoLaws.{length_upto, get_d_upto, upto_of}
use Rattle.circuit.specs.Legs.{columns, leg, col, table_of, without}
use Rattle.circuit.specs.State.{stray}
use Rattle.circuit.specs.Verdict.{says_none, leaves}
use Rattle.circuit.proofs.LegsLaws.{column_at, columns_square}
use Rattle.circuit.proofs.StateLaws.{stray_row_lem, stray_beyond, without_none}
use Rattle.filter.specs.declared.singles.Singles.{Singles}
use Rattle.filter.specs.inner.Singles.{single, only, two, sole_in, SinglesOf, keeps}
use Rattle.filter.specs.Sweep.{stuck, next_taken, prev_taken, swept, sweep}
use Rattle.filter.proofs.OneLaws.{single_pow, only_bit, twice_once, two_ext, zero_is, single_is, other_pair, other_once}
use Rattle.filter.proofs.SoleLaws.{col_has, col_below, col_empty, col_single, unreached, row_many, col_many}

-- ---- of a list of words: some other word than the one at i is the set of j alone

module _ (n : ℕ) (words : List ℕ) (fits : (k : ℕ) → k < n → get_or words k 0 < 2 ^ 64) (i j : ℕ) (li : i < n) (lj : j < 64) (member : has (get_or words i 0) j ≡ true) where
  is : ℕ → Bool
  is k = eqb (get_or words k 0) (2 ^ j)

  only_is : (k : ℕ) → k < n → only words j k ≡ is k
  unfolding is
  only_is k l = single_pow 64 (get_or words k 0) j (fits k l) lj

  another : cond (single (get_or words i 0)) (two n (only words j)) (any n (only words j)) ≡ any n (λ k. not (eqb k i) && eqb (get_or words k 0) (2 ^ j))
  unfolding is
  another = ⊎_elim alone more (cases (single (get_or words i 0)))
    where
      alone : single (get_or words i 0) ≡ true
          → cond (single (get_or words i 0)) (two n (only words j)) (any n (only words j)) ≡ any n (λ k. not (eqb k i) && is k)
      alone e =
          cond_true _ _ e
          ∙ two_ext n (only words j) is only_is
          ∙ sym (other_pair n is i li (sym (only_is i li) ∙ ap (λ (w : ℕ). has w j) (cond_true (get_or words i 0) 0 e) ∙ member))

      more : single (get_or words i 0) ≡ false
          → cond (single (get_or words i 0)) (two n (only words j)) (any n (only words j)) ≡ any n (λ k. not (eqb k i) && is k)
      more e =
          cond_false _ _ e ∙ any_ext n (only words j) is only_is
          ∙ sym (other_once n is i (sym (only_is i li) ∙ ap (λ (w : ℕ). has w j) (cond_false (get_or words i 0) 0 e) ∙ has_zero j))

-- ---- of a table

-- the test of `keeps` for the columns: some column, two columns, this column has the station alone
by_column : (some pair here : Bool) → (pair ≡ true → some ≡ true) → (here ≡ true → some ≡ true) → cond (some && not pair) here (not some) ≡ not (cond here pair some)
by_column true true true p h = refl
by_column true true false p h = refl
by_column true false true p h = refl
by_column true false false p h = refl
by_column false true here p h = clash (sym (p refl))
by_column false false true p h = clash (sym (h refl))
by_column false false false p h = refl

module _ (n : ℕ) (t : List ℕ) (le : n ≤ 64) (clean : stray n t ≡ false) (next : Singles) (gn : SinglesOf n t next) where
  -- some row or some column is empty
  stuck_is : next.reached < 2 ^ 64 → next.empty || not (eqb next.reached (set_of 64 (λ j. ltb j n))) ≡ stuck n t
  unfolding stuck
  stuck_is fits =
      ap₂ (λ (a b : Bool). a || b) gn.empty (unreached n t le clean next gn fits ∙ sym (any_ext n (λ k. eqb (col n t k) 0) (λ k. not (has next.reached k)) (col_empty n t le clean next gn)))
      ∙ sym (any_or n (λ k. eqb (get_or t k 0) 0) (λ k. eqb (col n t k) 0))

  row_fits : (k : ℕ) → k < n → get_or t k 0 < 2 ^ 64
  row_fits k l = lt_of_lt_of_le (stray_row_lem n t le clean k l) (pow_mono le)

  goes : ℕ → ℕ → Bool
  goes i j = next_taken n t i j || prev_taken n (columns n t) i j

  module _ (sole : ℕ) (alone : sole ≡ set_of 64 (sole_in next)) where
    module _ (i j : ℕ) (li : i < n) (lj : j < n) (stands : leg t i j ≡ true) where
      by_rows : cond (single (row t i)) (has next.twice j) (has next.once j) ≡ next_taken n t i j
      unfolding next_taken leg
      by_rows =
          let low : j < 64 = lt_of_lt_of_le lj le in
          rw (gn.twice j low, gn.once j low) (another n t row_fits i j li low stands)

      own : ℕ
      own = bit_and (row t i) sole

      own_low : own < 2 ^ n
      unfolding own
      own_low = omega (arith, and_le_l (row t i) sole, stray_row_lem n t le clean i li)

      -- the stations into which i has the only leg
      own_has : (k : ℕ) → k < n → has own k ≡ eqb (get_or (columns n t) k 0) (2 ^ i)
      unfolding own
      own_has k l =
          let c = col n t k in
          has_and (row t i) sole k
          ∙ ap₂ (λ (a b : Bool). a && b) (sym (col_has n t k i li)) (word_has 64 (sole_in next) alone k (lt_of_lt_of_le l le) ∙ col_single n t le clean next gn k l)
          ∙ sym (only_bit n c i (col_below n t k) li) ∙ ap (λ (w : ℕ). eqb w (2 ^ i)) (sym (column_at n t le k l))

      others : any n (λ k. not (eqb k j) && has own k) ≡ cond (has own j) (two n (has own)) (any n (has own))
      others =
          ⊎_elim (λ (e : has own j ≡ true). other_pair n (has own) j lj e ∙ sym (cond_true (two n (has own)) (any n (has own)) e))
          (λ (e : has own j ≡ false). other_once n (has own) j e ∙ sym (cond_false (two n (has own)) (any n (has own)) e)) (cases (has own j))

      by_columns : cond (single own) (has own j) (eqb own 0) ≡ not (prev_taken n (columns n t) i j)
      unfolding prev_taken
      by_columns =
          ap₂ (λ (a b : Bool). cond a (has own j) b) (single_is n own own_low) (zero_is n own own_low)
          ∙ by_column (any n (has own)) (two n (has own)) (has own j) (twice_once n (has own)) (λ e. any_intro n (has own) j lj e)
          ∙ ap not (sym others ∙ any_ext n (λ k. not (eqb k j) && has own k) (λ k. not (eqb k j) && eqb (get_or (columns n t) k 0) (2 ^ i)) (λ k l. ap (λ (b : Bool). not (eqb k j) && b) (own_has k l)))

      keeps_is : keeps next (bit_and (row t i) sole) (row t i) j ≡ not (goes i j)
      unfolding goes own
      keeps_is = ap₂ (λ (a b : Bool). not a && b) by_rows by_columns ∙ taut2 (λ a b. not a && not b) (λ a b. not (a || b)) refl (next_taken n t i j) (prev_taken n (columns n t) i j)

    -- the row that is left
    pub swept_row_lem : (i w : ℕ) → i < n → w < 2 ^ 64 → ((j : ℕ) → j < 64 → has w j ≡ has (row t i) j && keeps next (bit_and (row t i) sole) (row t i) j)
        → w ≡ set_of n (λ j. leg t i j && not (next_taken n t i j || prev_taken n (columns n t) i j))
    unfolding goes leg
    swept_row_lem i w li h bits = ext 64 w (set_of n kept) h (lt_of_lt_of_le (set_of_lt n kept) (pow_mono le)) (λ j l. bits j l ∙ ⊎_elim (inside j) (beyond j) (below? j n))
      where
        kept : ℕ → Bool
        kept j = leg t i j && not (goes i j)

        keep : ℕ → Bool
        keep = keeps next (bit_and (row t i) sole) (row t i)

        inside : (j : ℕ) → j < n → has (row t i) j && keep j ≡ has (set_of n kept) j
        inside j lj =
            ⊎_elim
            (λ (e : leg t i j ≡ true). ap (λ (b : Bool). has (row t i) j && b) (keeps_is i j li lj e) ∙ sym (has_set_of n kept j lj))
            (λ (e : leg t i j ≡ false). ap (λ (b : Bool). b && keep j) e ∙ sym (has_set_of n kept j lj ∙ ap (λ (b : Bool). b && not (goes i j)) e)) (cases (leg t i j))

        beyond : (j : ℕ) → n ≤ j → has (row t i) j && keep j ≡ has (set_of n kept) j
        beyond j g = ap (λ (b : Bool). b && keep j) (has_above n (row t i) j (stray_row_lem n t le clean i li) g) ∙ sym (set_of_above n kept j g)

-- ---- the rows of the swept table

pub swept_row : ℕ → List ℕ → ℕ → ℕ
swept_row n t i = cond (ltb i n) (set_of n (λ j. leg t i j && not (next_taken n t i j || prev_taken n (columns n t) i j))) 0

pub swept_rows : (n : ℕ) (t : List ℕ) → upto 64 (swept_row n t) ≡ swept n t
unfolding swept without table_of swept_row
swept_rows n t = refl

pub swept_in : (n : ℕ) (t : List ℕ) (i w : ℕ) → i < n → w ≡ set_of n (λ j. leg t i j && not (next_taken n t i j || prev_taken n (columns n t) i j)) → w ≡ swept_row n t i
unfolding swept_row
swept_in n t i w l e = e ∙ sym (cond_true _ 0 (lt-ltb i n l))

-- the rows below n are swept, and beyond there are none
pub swept_part : (n : ℕ) (t : List ℕ) → n ≤ 64 → stray n t ≡ false → length t ≡ 64 → (part : List ℕ) → part ≡ upto n (swept_row n t) → part ++ drop n t ≡ swept n t
unfolding swept_row
swept_part n t le clean len part is =
    upto_of 64 (swept_row n t) 0 (part ++ drop n t) (length-append part (drop n t) ∙ omega (arith, long, length-drop n t))
    (λ k l. ⊎_elim (within k) (beyond k l) (below? k n))
    ∙ swept_rows n t
  where
    long : length part ≡ n
    long = ap length is ∙ length_upto n (swept_row n t)

    within : (k : ℕ) → k < n → get_or (part ++ drop n t) k 0 ≡ swept_row n t k
    within k l = get_or-append part (drop n t) 0 k (omega (arith, long)) ∙ ap (λ (u : List ℕ). get_or u k 0) is ∙ get_d_upto n (swept_row n t) 0 k l

    beyond : (k : ℕ) → k < 64 → n ≤ k → get_or (part ++ drop n t) k 0 ≡ swept_row n t k
    beyond k l g =
        let at : n + (k - n) ≡ k = omega arith in
        get_or-append_right part (drop n t) n k 0 long g ∙ get_or-drop n t (k - n) 0 ∙ ap (λ (i : ℕ). get_or t i 0) at
        ∙ stray_beyond n t clean k g l ∙ sym (cond_false _ 0 (le-ltb k n g))

-- where no station has one leg only, no leg goes
module _ (n : ℕ) (t : List ℕ) (le : n ≤ 64) (clean : stray n t ≡ false) (next : Singles) (gn : SinglesOf n t next) (sole : ℕ) (alone : sole ≡ set_of 64 (sole_in next)) (none_out : next.once ≡ 0) (none_in : sole ≡ 0) where
  -- a word with no member or with more than one is no set of one
  other_word : (w i : ℕ) → w < 2 ^ n → i < n → single w ≡ false → eqb w (2 ^ i) ≡ false
  other_word w i h l e = only_bit n w i h l ∙ ap (λ (b : Bool). has w i && b) e ∙ and-false (has w i)

  none_next : (i j : ℕ) → j < n → next_taken n t i j ≡ false
  unfolding next_taken
  none_next i j lj =
      any_none n (λ k. not (eqb k i) && eqb (row t k) (2 ^ j)) (λ k l.
      ap (λ (b : Bool). not (eqb k i) && b) (other_word (row t k) j (stray_row_lem n t le clean k l) lj (row_many n t le clean next gn none_out k l)) ∙ and-false (not (eqb k i)))

  none_prev : (i j : ℕ) → i < n → prev_taken n (columns n t) i j ≡ false
  unfolding prev_taken
  none_prev i j li =
      any_none n (λ k. not (eqb k j) && eqb (row (columns n t) k) (2 ^ i)) (λ k l.
      ap (λ (b : Bool). not (eqb k j) && b) (other_word (row (columns n t) k) i (columns_square n t le k l) li (col_many n t le clean next gn sole alone none_in k l)) ∙ and-false (not (eqb k j)))

  pub swept_same : length t ≡ 64 → swept n t ≡ t
  unfolding swept
  swept_same len = without_none n t (λ i j. next_taken n t i j || prev_taken n (columns n t) i j) le clean len (λ i j li lj. or_none (none_next i j lj) (none_prev i j li))

-- ---- the verdict

module _ (n : ℕ) (t : List ℕ) (le : n ≤ 64) (clean : stray n t ≡ false) (next : Singles) (gn : SinglesOf n t next) (fits : next.reached < 2 ^ 64) (full : ℕ) (all : full ≡ set_of 64 (λ j. ltb j n)) where
  told : next.empty || not (eqb next.reached full) ≡ stuck n t
  told = ap (λ (w : ℕ). next.empty || not (eqb next.reached w)) all ∙ stuck_is n t le clean next gn fits

  pub sweep_none : next.empty || not (eqb next.reached full) ≡ true → sweep n t ≡ says_none t
  unfolding sweep
  sweep_none e = cond_true (says_none t) (leaves (swept n t)) (sym told ∙ e)

  pub sweep_left : next.empty || not (eqb next.reached full) ≡ false → (left : List ℕ) → left ≡ swept n t → sweep n t ≡ leaves left
  unfolding sweep
  sweep_left e left q = cond_false (says_none t) (leaves (swept n t)) (sym told ∙ e) ∙ ap leaves (sym q)
