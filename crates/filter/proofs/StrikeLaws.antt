-- The loop that strikes the legs of some rows. Assumes nothing.
use mathlib.Core.Path.{◌≡◌, refl, sym, ap, ap₂, ◌∙◌}
use mathlib.Core.Logic.{⊎_elim}
use mathlib.Core.Bool.{Bool, true, false, not, cond, ◌&&◌, and-true, and-false}
use mathlib.Core.List.{List}
use Prim.Native.Nat.{ℕ, ◌-◌, ◌^◌, ◌≤◌, ◌<◌}
use native.Mathlib.Omega.{arith}
use lib.Bits.{and_le_l}
use lib.Dec.{eqb, ltb}
use lib.ListN.{length, set, length-set}
use lib.Seq.{get_or-set_same, get_or-set_other}
use borrow.Author.Tests.{eqb-true, eqb-false, lt-ltb, le-ltb}
use Rattle.bitset.specs.Sets.{has, set_of}
use Rattle.bitset.specs.Upto.{row}
use Rattle.bitset.specs.inner.Members.{Parts}
use Rattle.bitset.proofs.BoolLaws.{cases, and_l, cond_true, cond_false, taut1}
use Rattle.bitset.proofs.HasLaws.{has_zero, has_above, member_below}
use Rattle.bitset.proofs.LeastLaws.{trailing_least, has_clear}
use Rattle.bitset.proofs.MachineLaws.{set_of_low}
use Rattle.bitset.proofs.QuantLaws.{below?}
use Rattle.bitset.proofs.SetLaws.{eq_set_of, set_of_ext}
use Rattle.bitset.proofs.UptoLaws.{upto_of}
use Rattle.circuit.specs.Legs.{leg, table_of, without}
use Rattle.circuit.specs.State.{stray}
use Rattle.circuit.proofs.StateLaws.{stray_row_lem, stray_beyond}
use Rattle.filter.specs.inner.Chains.{closed}

-- row i of t without what its word has
abbrev struck_row : List ℕ → List ℕ → ℕ → ℕ
struck_row t words i = set_of 64 (λ j. has (row t i) j && not (has (row words i) j))

-- the rows of the ends that are not in `rest` are struck, the others as they were
pub record Striking (t words : List ℕ) (ends rest : ℕ) (rows : List ℕ) : Type 0 where
  pub rest_fits : rest < 2 ^ 64
  pub within : (b : ℕ) → has rest b ≡ true → has ends b ≡ true
  pub size : length rows ≡ 64
  pub rows_are : (i : ℕ) → i < 64 → row rows i ≡ cond (has ends i && not (has rest i)) (struck_row t words i) (row t i)

module _ (t words : List ℕ) (ends : ℕ) where
  pub striking_start : length t ≡ 64 → ends < 2 ^ 64 → Striking t words ends ends t
  striking_start size h =
      record { rest_fits = h; within = λ b e. e; size = size; rows_are = λ i l. sym (cond_false (struck_row t words i) (row t i) (taut1 (λ a. a && not a) (λ a. false) refl (has ends i))) }

  -- the least of the rest is struck
  module _ (rest : ℕ) (rows : List ℕ) (b others : ℕ) (parts : Parts rest b others) (s : Striking t words ends rest rows) where
    pub striking_turn : (w : ℕ) → w ≡ set_of 64 (λ j. has (row rows b) j && not (has (row words b) j)) → Striking t words ends others (set rows b w)
    striking_turn w e =
        record {
          rest_fits = omega (arith, s.rest_fits, parts.others, and_le_l rest (rest - 1));
          within = λ i q. s.within i (and_l (has rest i) (not (eqb i b)) (sym (clear i) ∙ q));
          size = length-set rows b w ∙ s.size;
          rows_are = λ i l. ⊎_elim (here i) (other i l) (cases (eqb i b));
        }
      where
        low : b < 64
        low = parts.below

        member : has rest b ≡ true
        member = ap (has rest) parts.least ∙ (trailing_least 64 rest parts.nonempty s.rest_fits).member

        clear : (i : ℕ) → has others i ≡ has rest i && not (eqb i b)
        clear i =
            ap (λ (x : ℕ). has x i) parts.others ∙ has_clear 64 rest i parts.nonempty s.rest_fits
            ∙ ap (λ (x : ℕ). has rest i && not (eqb i x)) (sym parts.least)

        before : row rows b ≡ row t b
        before = s.rows_are b low ∙ cond_false (struck_row t words b) (row t b) (ap (λ (x : Bool). has ends b && not x) member ∙ and-false (has ends b))

        here : (i : ℕ) → eqb i b ≡ true → row (set rows b w) i ≡ cond (has ends i && not (has others i)) (struck_row t words i) (row t i)
        here i q =
            let is : i ≡ b = eqb-true i b q in
            ap (row (set rows b w)) is ∙ get_or-set_same rows b w 0 (omega (arith, low, s.size)) ∙ e ∙ ap (λ (x : ℕ). set_of 64 (λ j. has x j && not (has (row words b) j))) before ∙ ap (struck_row t words) (sym is)
            ∙ sym (cond_true (struck_row t words i) (row t i) (ap₂ (λ (x y : Bool). x && not y) (ap (has ends) is ∙ s.within b member) (clear i ∙ ap (λ (x : Bool). has rest i && not x) q ∙ and-false (has rest i))))

        other : (i : ℕ) → i < 64 → eqb i b ≡ false → row (set rows b w) i ≡ cond (has ends i && not (has others i)) (struck_row t words i) (row t i)
        other i l q =
            get_or-set_other rows b i w 0 (eqb-false i b q) ∙ s.rows_are i l
            ∙ ap (λ (x : Bool). cond (has ends i && not x) (struck_row t words i) (row t i)) (sym (clear i ∙ ap (λ (x : Bool). has rest i && not x) q ∙ and-true (has rest i)))

  -- all are struck
  module _ (rest : ℕ) (rows : List ℕ) (s : Striking t words ends rest rows) where
    pub striking_end : rest ≡ 0 → (n : ℕ) → n ≤ 64 → ends < 2 ^ n → stray n t ≡ false → rows ≡ without n t (closed ends words)
    unfolding without table_of leg
    striking_end none n le h clean = upto_of 64 (λ i. cond (ltb i n) (set_of n (stays i)) 0) 0 rows s.size (λ i l. at i l ∙ ⊎_elim (inside i) (beyond i l) (below? i n))
      where
        stays : ℕ → ℕ → Bool
        stays i j = has (row t i) j && not (closed ends words i j)

        at : (i : ℕ) → i < 64 → row rows i ≡ cond (has ends i) (struck_row t words i) (row t i)
        at i l = s.rows_are i l ∙ ap (λ (x : Bool). cond x (struck_row t words i) (row t i)) (ap (λ (x : Bool). has ends i && not x) (ap (λ (w : ℕ). has w i) none ∙ has_zero i) ∙ and-true (has ends i))

        inside : (i : ℕ) → i < n → cond (has ends i) (struck_row t words i) (row t i) ≡ cond (ltb i n) (set_of n (stays i)) 0
        inside i l = ⊎_elim struck left (cases (has ends i)) ∙ sym (cond_true (set_of n (stays i)) 0 (lt-ltb i n l))
          where
            struck : has ends i ≡ true → cond (has ends i) (struck_row t words i) (row t i) ≡ set_of n (stays i)
            struck e =
                cond_true (struck_row t words i) (row t i) e
                ∙ set_of_low le (λ j. has (row t i) j && not (has (row words i) j)) (λ j _ q. member_below n (row t i) j (stray_row_lem n t le clean i l) (and_l (has (row t i) j) (not (has (row words i) j)) q))
                ∙ set_of_ext n (λ j. has (row t i) j && not (has (row words i) j)) (stays i) (λ j _. ap (λ (x : Bool). has (row t i) j && not (x && has (row words i) j)) (sym e))

            left : has ends i ≡ false → cond (has ends i) (struck_row t words i) (row t i) ≡ set_of n (stays i)
            left e =
                cond_false (struck_row t words i) (row t i) e
                ∙ eq_set_of n (row t i) (stays i) (stray_row_lem n t le clean i l) (λ j _. sym (ap (λ (x : Bool). has (row t i) j && not (x && has (row words i) j)) e ∙ and-true (has (row t i) j)))

        beyond : (i : ℕ) → i < 64 → n ≤ i → cond (has ends i) (struck_row t words i) (row t i) ≡ cond (ltb i n) (set_of n (stays i)) 0
        beyond i l g =
            cond_false (struck_row t words i) (row t i) (has_above n ends i h g) ∙ stray_beyond n t clean i g l ∙ sym (cond_false (set_of n (stays i)) 0 (le-ltb i n g))
