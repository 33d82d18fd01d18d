-- The cut of a table's rows and columns: one word, a walk over the stations of s, and what is left of the table. Assumes nothing.
use mathlib.Core.Path.{◌≡◌, refl, sym, ap, ap₂, ◌∙◌, subst}
use mathlib.Core.Logic.{⊎_elim}
use mathlib.Core.Bool.{Bool, true, false, not, cond, ◌&&◌, ◌||◌, and-true, and-false, and_comm}
use mathlib.Core.List.{List}
use Prim.Native.Nat.{ℕ, ◌-◌, ◌^◌, ◌≤◌, ◌<◌}
use native.Mathlib.Nat.{lt_of_lt_of_le}
use native.Mathlib.Omega.{arith}
use lib.Dec.{eqb}
use lib.Pow.{pow_mono, pow_pos}
use lib.Bits.{bit_and, bit_or, and_le_l}
use lib.Count.{count_trailing_zeros}
use lib.ListN.{length, set, length-set}
use lib.Seq.{ext_get_or, get_or-set_same, get_or-set_other}
use borrow.Author.Tests.{eqb-true, eqb-false, not-true}
use Rattle.bitset.specs.Sets.{has, set_of}
use Rattle.bitset.specs.Upto.{row}
use Rattle.bitset.specs.inner.Members.{Parts}
use Rattle.bitset.proofs.BoolLaws.{iff, cases, and_intro, and_l, and_r, cond_true, cond_false, cond_elim, taut2, taut3}
use Rattle.bitset.proofs.HasLaws.{has_zero, has_and, has_or, has_not, ext}
use Rattle.bitset.proofs.SetLaws.{has_set_of, set_of_lt, set_of_above, eq_set_of, has_diff}
use Rattle.bitset.proofs.QuantLaws.{below?}
use Rattle.bitset.proofs.LeastLaws.{trailing_least, has_clear}
use Rattle.bitset.proofs.UptoLaws.{get_d_upto, length_upto, upto_of}
use Rattle.circuit.specs.Legs.{columns, leg, col, table_of, without}
use Rattle.circuit.specs.State.{stray}
use Rattle.circuit.proofs.LegsLaws.{row_in, row_out, table_of_leg, without_stays}
use Rattle.separator.specs.inner.Spares.{cuts, cut_row, Cut}
use Rattle.separator.proofs.CleanLaws.{row_fits, leg_low}

-- ---- one word

pub cut_some : (w s out into i : ℕ) → w < 2 ^ 64 → s < 2 ^ 64 → has s i ≡ true → has out i ≡ true
    → bit_and w (bit_or ((2 ^ 64 - 1) - s) into) ≡ cut_row s out into i w
unfolding cut_row
cut_some w s out into i hw hs e f =
    let v : ℕ = bit_or ((2 ^ 64 - 1) - s) into in
    eq_set_of 64 (bit_and w v) (λ j. has w j && not (cuts s out into i j)) (omega (arith, and_le_l w v))
    (λ j l. has_and w v j
    ∙ ap (λ (x : Bool). has w j && x) (has_or ((2 ^ 64 - 1) - s) into j ∙ ap (λ (x : Bool). x || has into j) (has_not 64 s j hs l))
    ∙ taut3 (λ a b c. a && (not b || c)) (λ a b c. a && not (b && not c)) refl (has w j) (has s j) (has into j)
    ∙ ap₂ (λ (x y : Bool). has w j && not (x && has s j && not (y && has into j))) (sym e) (sym f))
    ∙ sym (cond_true _ w e)

pub cut_all : (w s out into i : ℕ) → w < 2 ^ 64 → s < 2 ^ 64 → has s i ≡ true → has out i ≡ false
    → bit_and w ((2 ^ 64 - 1) - s) ≡ cut_row s out into i w
unfolding cut_row
cut_all w s out into i hw hs e f =
    let v : ℕ = (2 ^ 64 - 1) - s in
    eq_set_of 64 (bit_and w v) (λ j. has w j && not (cuts s out into i j)) (omega (arith, and_le_l w v))
    (λ j l. has_diff 64 w s j hs l
    ∙ taut2 (λ a b. a && not b) (λ a b. a && not (b && true)) refl (has w j) (has s j)
    ∙ ap₂ (λ (x y : Bool). has w j && not (x && has s j && not (y && has into j))) (sym e) (sym f))
    ∙ sym (cond_true _ w e)

cut_has : (s out into i w j : ℕ) → j < 64 → has (cut_row s out into i w) j ≡ has w j && not (cuts s out into i j)
unfolding cut_row
cut_has s out into i w j l =
    cond_elim (λ v. has v j ≡ has w j && not (cuts s out into i j)) (has s i) (set_of 64 (λ j. has w j && not (cuts s out into i j))) w
    (λ e. has_set_of 64 (λ j. has w j && not (cuts s out into i j)) j l)
    (λ e. sym (ap (λ (x : Bool). has w j && not (x && has s j && not (has out i && has into j))) e ∙ and-true (has w j)))

cut_lt : (s out into i w : ℕ) → w < 2 ^ 64 → cut_row s out into i w < 2 ^ 64
unfolding cut_row
cut_lt s out into i w h =
    let left : ℕ → Bool = λ j. has w j && not (cuts s out into i j) in
    cond_elim (λ v. v < 2 ^ 64) (has s i) (set_of 64 left) w (λ e. set_of_lt 64 left) (λ e. h)

-- ---- the walk over the stations of s, the least first

pub record Cutting (s out into : ℕ) (before : List ℕ) (rest : ℕ) (now : List ℕ) : Type 0 where
  pub rest_fits : rest < 2 ^ 64
  pub within : (k : ℕ) → has rest k ≡ true → has s k ≡ true
  pub size : length now ≡ 64
  pub word : (k : ℕ) → k < 64 → row now k ≡ cond (has rest k) (row before k) (cut_row s out into k (row before k))

module _ (s out into : ℕ) (before : List ℕ) where
  -- word k, cut unless it is still to come
  word_of : ℕ → Bool → ℕ
  word_of k b = cond b (row before k) (cut_row s out into k (row before k))

  pub cutting_start : {rest : ℕ} → rest ≡ s → s < 2 ^ 64 → length before ≡ 64 → Cutting s out into before rest before
  unfolding cut_row
  cutting_start e h len =
      rw e record {
        rest_fits = h;
        within = λ k e. e;
        size = len;
        word = λ k l.
            let w : ℕ = row before k in
            cond_elim (λ v. w ≡ v) (has s k) w (cut_row s out into k w) (λ e. refl) (λ e. sym (cond_false _ w e));
      }

  cutting_least : {rest : ℕ} {now : List ℕ} (w : ℕ) → Cutting s out into before rest now → 0 < rest
      → w ≡ cut_row s out into (count_trailing_zeros 64 rest) (row now (count_trailing_zeros 64 rest))
      → Cutting s out into before (bit_and rest (rest - 1)) (set now (count_trailing_zeros 64 rest) w)
  unfolding word_of
  cutting_least {rest} {now} w C p e =
      record {
        rest_fits = omega (arith, C.rest_fits, and_le_l rest (rest - 1));
        within = λ k q. C.within k (and_l (has rest k) (not (eqb k i)) (sym (has_clear 64 rest k p C.rest_fits) ∙ q));
        size = length-set now i w ∙ C.size;
        word = λ k l. ⊎_elim (here k l) (other k l) (cases (eqb k i));
      }
    where
      i : ℕ
      i = count_trailing_zeros 64 rest

      least : (i < 64) × (has rest i ≡ true)
      least = let r = trailing_least 64 rest p C.rest_fits in (r.below, r.member)

      here : (k : ℕ) → k < 64 → eqb k i ≡ true → row (set now i w) k ≡ word_of k (has (bit_and rest (rest - 1)) k)
      here k l q =
          ap (λ (n : ℕ). row (set now i w) n) (eqb-true k i q) ∙ get_or-set_same now i w 0 (omega (arith, C.size, least.0)) ∙ e
          ∙ ap (cut_row s out into i) (C.word i least.0 ∙ ap (word_of i) least.1)
          ∙ ap (λ (n : ℕ). word_of n false) (sym (eqb-true k i q))
          ∙ ap (word_of k) (sym (has_clear 64 rest k p C.rest_fits ∙ ap (λ (b : Bool). has rest k && not b) q ∙ and-false (has rest k)))

      other : (k : ℕ) → k < 64 → eqb k i ≡ false → row (set now i w) k ≡ word_of k (has (bit_and rest (rest - 1)) k)
      other k l q =
          get_or-set_other now i k w 0 (eqb-false k i q) ∙ C.word k l
          ∙ ap (word_of k) (sym (has_clear 64 rest k p C.rest_fits ∙ ap (λ (b : Bool). has rest k && not b) q ∙ and-true (has rest k)))

  pub cutting_turn : {rest i others : ℕ} {now : List ℕ} (w : ℕ) → Cutting s out into before rest now → Parts rest i others
      → w ≡ cut_row s out into i (row now i) → Cutting s out into before others (set now i w)
  cutting_turn {now = now} w C P e =
      rw (P.others, P.least) (cutting_least w C P.nonempty (e ∙ ap (λ (k : ℕ). cut_row s out into k (row now k)) P.least))

  pub cutting_end : {rest : ℕ} {now : List ℕ} → Cutting s out into before rest now → rest ≡ 0 → Cut s out into before now
  unfolding word_of
  cutting_end {rest} {now} C z =
      record { size = C.size; word = λ k l. C.word k l ∙ ap (word_of k) (ap (λ (w : ℕ). has w k) z ∙ has_zero k) }

-- ---- what is left of a table

-- a leg of the table that is left
cut_leg : {s out into : ℕ} {t u : List ℕ} → Cut s out into t u → (i j : ℕ) → i < 64 → j < 64 → leg u i j ≡ leg t i j && not (cuts s out into i j)
unfolding leg
cut_leg {s} {out} {into} {t} {u} C i j li lj = ap (λ (w : ℕ). has w j) (C.word i li) ∙ cut_has s out into i (row t i) j lj

module _ (n : ℕ) (t : List ℕ) (most : n ≤ 64) (clean : stray n t ≡ false) where
  -- where the cut takes just the legs that go, it leaves the table without them
  pub cut_rows : {s out into : ℕ} {u : List ℕ} (goes : ℕ → ℕ → Bool) → Cut s out into t u
      → ((i j : ℕ) → i < n → j < n → leg t i j ≡ true → goes i j ≡ cuts s out into i j) → u ≡ without n t goes
  cut_rows {s} {out} {into} {u} goes C same =
      ext_get_or 0 u (without n t goes) (C.size ∙ sym size) (λ i l.
      let li : i < 64 = omega (arith, C.size) in
      ext 64 (row u i) (row (without n t goes) i)
      (subst (λ (w : ℕ). w < 2 ^ 64) (sym (C.word i li)) (cut_lt s out into i (row t i) (row_fits n t most clean i li)))
      (left_fits i) (λ j lj. unfold leg in (legs i j li lj)))
    where
      stays : ℕ → ℕ → Bool
      stays i j = leg t i j && not (goes i j)

      size : length (without n t goes) ≡ 64
      size = unfold without in unfold table_of in (length_upto 64 _)

      left_fits : (i : ℕ) → row (without n t goes) i < 2 ^ 64
      left_fits i =
          unfold without in (⊎_elim
          (λ h. subst (λ (w : ℕ). w < 2 ^ 64) (sym (row_in n stays i most h)) (lt_of_lt_of_le (set_of_lt n (stays i)) (pow_mono most)))
          (λ h. subst (λ (w : ℕ). w < 2 ^ 64) (sym (row_out n stays i h)) (pow_pos 64))
          (below? i n))

      legs : (i j : ℕ) → i < 64 → j < 64 → leg u i j ≡ leg (without n t goes) i j
      legs i j li lj =
          iff (leg u i j) (leg (without n t goes) i j)
          (λ e.
          let f : leg t i j && not (cuts s out into i j) ≡ true = sym (cut_leg C i j li lj) ∙ e in
          let on = and_l (leg t i j) (not (cuts s out into i j)) f in
          let b = leg_low n t most clean i j li on in
          without_stays n t goes i j most b.0 b.1 on
          (same i j b.0 b.1 on ∙ not-true (cuts s out into i j) (and_r (leg t i j) (not (cuts s out into i j)) f)))
          (λ e.
          let f = table_of_leg n stays i j (unfold without in e) in
          let on = and_l (leg t i j) (not (goes i j)) f.2 in
          cut_leg C i j li lj ∙ and_intro on (ap not (sym (same i j f.0 f.1 on)) ∙ and_r (leg t i j) (not (goes i j)) f.2))

-- the columns, cut with the roles of `out` and `into` swapped, are the columns of the rows that are left
pub cut_cols : {s out into : ℕ} {t u v : List ℕ} (n : ℕ) → n ≤ 64 → Cut s out into t u → Cut s into out (columns n t) v
    → v ≡ columns n u
unfolding col
cut_cols {s} {out} {into} {t} {u} {v} n most C D =
    upto_of 64 (col n u) 0 v D.size (λ k l. D.word k l ∙ ap (cut_row s into out k) (get_d_upto 64 (col n t) 0 k l) ∙ column k l)
  where
    fits : (w : List ℕ) (k : ℕ) → col n w k < 2 ^ 64
    fits w k = lt_of_lt_of_le (set_of_lt n (λ i. leg w i k)) (pow_mono most)

    swap : (i k : ℕ) → cuts s into out k i ≡ cuts s out into i k
    swap i k = ap₂ (λ (x y : Bool). x && not y) (and_comm (has s k) (has s i)) (and_comm (has into k) (has out i))

    column : (k : ℕ) → k < 64 → cut_row s into out k (col n t k) ≡ col n u k
    column k l =
        ext 64 (cut_row s into out k (col n t k)) (col n u k) (cut_lt s into out k (col n t k) (fits t k)) (fits u k)
        (λ i li. cut_has s into out k (col n t k) i li ∙ ⊎_elim
        (λ h.
        ap₂ (λ (x y : Bool). x && not y) (has_set_of n (λ i. leg t i k) i h) (swap i k) ∙ sym (cut_leg C i k li l)
        ∙ sym (has_set_of n (λ i. leg u i k) i h))
        (λ h.
        ap (λ (x : Bool). x && not (cuts s into out k i)) (set_of_above n (λ i. leg t i k) i h)
        ∙ sym (set_of_above n (λ i. leg u i k) i h))
        (below? i n))
