-- Rows without stray legs, by their legs; and the code's test for them. Assumes nothing.
use mathlib.Core.Path.{◌≡◌, refl, sym, ap, ap₂, ◌∙◌}
use mathlib.Core.Logic.{◌≢◌, ⊎_elim}
use mathlib.Core.Bool.{Bool, true, false, not, ◌||◌}
use mathlib.Core.List.{List}
use Prim.Native.Nat.{ℕ, ◌+◌, ◌-◌, ◌^◌, ◌≤◌, ◌<◌}
use native.Mathlib.Nat.{lt_of_lt_of_le, not-le_of_lt}
use native.Mathlib.Numerals.{add-one}
use lib.Bits.{bit_and, bit_or}
use lib.Dec.{eqb, leb, ltb}
use lib.Pow.{pow_pos, pow_mono}
use borrow.Author.Tests.{lt-ltb, le-ltb, lt-leb, leb-false, eqb-true, eqb-false, eq-eqb, ne_eqb, not-true, not-false}
use Rattle.bitset.specs.Sets.{has, set_of, any}
use Rattle.bitset.specs.Upto.{row}
use Rattle.bitset.proofs.BoolLaws.{cases, not_both, is_false, or_none, or_false_l, or_false_r, cond_elim, cond_true, cond_false}
use Rattle.bitset.proofs.QuantLaws.{below?}
use Rattle.bitset.proofs.HasLaws.{has_zero, has_above}
use Rattle.bitset.proofs.SetLaws.{set_of_lt, has_set_of, set_of_elim, no_member, members_below}
use Rattle.bitset.proofs.MachineLaws.{within_of_diff, diff_of_within}
use Rattle.bitset.proofs.WordLaws.{or_some}
use Rattle.circuit.specs.inner.Tables.{full_row, some, Tells}
use Rattle.circuit.specs.State.{stray_row}

-- j may follow i in the full table of n
abbrev pub Allowed : ℕ → ℕ → ℕ → Type 0
Allowed n i j = (i < n) × (j < n) × (j ≢ i)

module _ (n i w : ℕ) where
  pub row_allowed : stray_row n i w ≡ false → (j : ℕ) → has w j ≡ true → Allowed n i j
  unfolding stray_row
  row_allowed e j h = ⊎_elim inside beyond (below? i n)
    where
      inside : i < n → Allowed n i j
      inside l =
          let own : leb (2 ^ n) w || has w i ≡ false = sym (cond_true _ _ (lt-ltb i n l)) ∙ e in
          let small : w < 2 ^ n = leb-false (2 ^ n) w (or_false_l (leb (2 ^ n) w) (has w i) own) in (
            l,
            ⊎_elim (λ m. m) (λ g. absurd (not_both h (has_above n w j small g))) (below? j n),
            λ q. not_both (ap (has w) (sym q) ∙ h) (or_false_r (leb (2 ^ n) w) (has w i) own),
          )

      beyond : n ≤ i → Allowed n i j
      beyond g =
          let z : w ≡ 0 = eqb-true w 0 (not-false (eqb w 0) (sym (cond_false _ _ (le-ltb i n g)) ∙ e)) in
          absurd (not_both h (ap (λ (v : ℕ). has v j) z ∙ has_zero j))

  pub allowed_row : ((j : ℕ) → has w j ≡ true → Allowed n i j) → stray_row n i w ≡ false
  unfolding stray_row
  allowed_row f =
      ⊎_elim
      (λ l. cond_true _ _ (lt-ltb i n l)
      ∙ or_none (lt-leb (2 ^ n) w (members_below n w (λ j e. (f j e).1))) (is_false (has w i) (λ e. (f i e).2 refl)))
      (λ g. cond_false _ _ (le-ltb i n g)
      ∙ ap not (eq-eqb w 0 (no_member w (λ j. is_false (has w j) (λ e. not-le_of_lt (f j e).0 g)))))
      (below? i n)

-- ---- the full row, and `legs & !full_row(n, i) != 0`

full_allowed : (n i j : ℕ) → has (full_row n i) j ≡ true → Allowed n i j
unfolding full_row
full_allowed n i j e = ⊎_elim inside beyond (below? i n)
  where
    inside : i < n → Allowed n i j
    inside l =
        let f = set_of_elim n (λ j. not (eqb i j)) j (ap (λ (w : ℕ). has w j) (sym (cond_true _ 0 (lt-ltb i n l))) ∙ e) in
        (l, f.0, λ q. eqb-false i j (not-true (eqb i j) f.1) (sym q))

    beyond : n ≤ i → Allowed n i j
    beyond g = absurd (not_both e (ap (λ (w : ℕ). has w j) (cond_false (set_of n (λ j. not (eqb i j))) 0 (le-ltb i n g)) ∙ has_zero j))

allowed_full : (n i j : ℕ) → Allowed n i j → has (full_row n i) j ≡ true
unfolding full_row
allowed_full n i j (l, m, d) =
    ap (λ (w : ℕ). has w j) (cond_true (set_of n (λ j. not (eqb i j))) 0 (lt-ltb i n l))
    ∙ has_set_of n (λ j. not (eqb i j)) j m ∙ ap not (ne_eqb i j (λ q. d (sym q)))

full_lt : (n i : ℕ) → full_row n i < 2 ^ n
unfolding full_row
full_lt n i = cond_elim (λ (w : ℕ). w < 2 ^ n) (ltb i n) (set_of n (λ j. not (eqb i j))) 0 (λ e. set_of_lt n (λ j. not (eqb i j))) (λ e. pow_pos n)

pub stray_test : (n i w : ℕ) → n ≤ 64 → w < 2 ^ 64 → not (eqb (bit_and w ((2 ^ 64 - 1) - full_row n i)) 0) ≡ stray_row n i w
stray_test n i w le h =
    ⊎_elim
    (λ (s : stray_row n i w ≡ true). ap not (ne_eqb rest 0 (λ z. not_both s (allowed_row n i w (λ j e. full_allowed n i j (within z j e))))) ∙ sym s)
    (λ (s : stray_row n i w ≡ false). ap not (eq-eqb rest 0 (diff_of_within 64 w (full_row n i) h full (λ j l e. allowed_full n i j (row_allowed n i w s j e)))) ∙ sym s)
    (cases (stray_row n i w))
  where
    rest : ℕ
    rest = bit_and w ((2 ^ 64 - 1) - full_row n i)

    full : full_row n i < 2 ^ 64
    full = lt_of_lt_of_le (full_lt n i) (pow_mono le)

    within : rest ≡ 0 → (j : ℕ) → has w j ≡ true → has (full_row n i) j ≡ true
    within z j e = within_of_diff 64 w (full_row n i) full z j (⊎_elim (λ l. l) (λ g. absurd (not_both e (has_above 64 w j h g))) (below? j 64)) e

-- ---- the word that tells whether a row is stray

module _ (n : ℕ) (t : List ℕ) where
  pub tells_none : Tells n t 0 0
  unfolding any
  tells_none = refl

  pub tells_more : (i found v : ℕ) → Tells n t i found → some v ≡ stray_row n i (row t i) → Tells n t (i + 1) (bit_or found v)
  unfolding any
  tells_more i found v h e = or_some found v ∙ ap₂ (λ (a b : Bool). a || b) e h ∙ ap (λ (m : ℕ). any m (λ i. stray_row n i (row t i))) (sym (add-one i))

-- a row beyond n, as it stands
pub beyond_row : (n i w : ℕ) → n ≤ i → some w ≡ stray_row n i w
unfolding stray_row
beyond_row n i w g = sym (cond_false _ _ (le-ltb i n g))
