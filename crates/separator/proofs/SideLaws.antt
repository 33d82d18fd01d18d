-- One side of a level, out or in: its words, gathered component by component, and their assignment. Assumes nothing.
use mathlib.Core.Path.{◌≡◌, refl, sym, ap, ap₂, ◌∙◌, subst}
use mathlib.Core.Logic.{⊎_elim}
use mathlib.Core.Bool.{Bool, true, false, ◌||◌, or_comm, or-false, false≢true}
use mathlib.Core.List.{List}
use Prim.Native.Nat.{ℕ, suc, ◌-◌, ◌^◌, ◌<◌}
use native.Mathlib.Nat.{not-suc-le-zero}
use native.Mathlib.Omega.{arith}
use lib.Bits.{bit_and, bit_or, or_lt}
use lib.ListN.{length, set, length-set}
use lib.Seq.{get_or-set_same, get_or-set_other}
use Rattle.bitset.specs.Upto.{row}
use Rattle.bitset.specs.Sets.{has, set_of, any}
use Rattle.bitset.proofs.BoolLaws.{not_both}
use Rattle.bitset.proofs.HasLaws.{has_or}
use Rattle.bitset.proofs.SetLaws.{set_of_elim, set_of_ext, eq_set_of, word_lt, word_has}
use Rattle.bitset.proofs.QuantLaws.{at_or_below, any_elim}
use Rattle.bitset.proofs.WordLaws.{diff_none, diff_some}
use Rattle.matching.specs.Matching.{Inside, Exact}
use Rattle.separator.specs.inner.Spares.{Side, Settled}

-- ---- gathering: the bare marks first, then one component after the other

module _ (may : ℕ → ℕ → ℕ → Bool) where
  -- the station x has the mark m on one of its pairs
  bears : ℕ → ℕ → Bool
  bears m x = any 64 (λ y. may x y m)

  pub side_start : (fits : List ℕ) (some : ℕ) → length fits ≡ 64 → some ≡ set_of 64 (λ x. any 64 (λ y. may x y 0)) → Side may 0 fits some
  unfolding any
  side_start fits some len e =
      record {
        size = len;
        component = λ c l. absurd (not-suc-le-zero l);
        any_mark = e ∙ set_of_ext 64 _ _ (λ x l. sym (or-false (any 64 (λ y. may x y 0))));
      }

  pub side_more : (c : ℕ) (fits : List ℕ) (some w d : ℕ) → Side may c fits some → c < 64
      → w ≡ set_of 64 (λ x. any 64 (λ y. may x y d)) → d ≡ suc c → Side may d (set fits c w) (bit_or some w)
  unfolding any bears
  side_more c fits some w d S l is q = subst (λ (n : ℕ). Side may n (set fits c w) (bit_or some w)) (sym q) more
    where
      e : w ≡ set_of 64 (bears (suc c))
      e = is ∙ ap (λ (m : ℕ). set_of 64 (bears m)) q

      any_before : ℕ → Bool
      any_before x = any (suc c) (λ m. bears m x)

      component : (b : ℕ) → b < suc c → row (set fits c w) b ≡ set_of 64 (bears (suc b))
      component b lb =
          ⊎_elim
          (λ (z : b ≡ c).
          ap (λ (n : ℕ). row (set fits c w) n) z ∙ get_or-set_same fits c w 0 (omega (arith, S.size)) ∙ e
          ∙ ap (λ (n : ℕ). set_of 64 (bears (suc n))) (sym z))
          (λ (g : b < c). get_or-set_other fits c b w 0 (λ z. omega arith) ∙ S.component b g)
          (at_or_below lb)

      more : Side may (suc c) (set fits c w) (bit_or some w)
      more =
          record {
            size = length-set fits c w ∙ S.size;
            component = component;
            any_mark =
                eq_set_of 64 (bit_or some w) (λ x. any (suc (suc c)) (λ m. bears m x))
                (or_lt 64 some w (word_lt 64 any_before S.any_mark) (word_lt 64 (bears (suc c)) e))
                (λ x lx. has_or some w x
                ∙ ap₂ (λ (a b : Bool). a || b) (word_has 64 any_before S.any_mark x lx) (word_has 64 (bears (suc c)) e x lx)
                ∙ or_comm (any_before x) (bears (suc c) x));
          }

  -- only stations of s have marks, so the words lie in s
  pub side_inside : {p : ℕ} {fits : List ℕ} {some : ℕ} (s : ℕ) → ((x y m : ℕ) → may x y m ≡ true → has s x ≡ true)
      → Side may p fits some → Inside fits p s
  side_inside s only S c x l e =
      let r = set_of_elim 64 (λ x. any 64 (λ y. may x y (suc c))) x (ap (λ (w : ℕ). has w x) (sym (S.component c l)) ∙ e) in
      let y = any_elim 64 (λ y. may x y (suc c)) r.1 in
      only x y.0 (suc c) y.2

pub side_at : {may : ℕ → ℕ → ℕ → Bool} {c p : ℕ} {fits : List ℕ} {some : ℕ} → Side may c fits some → c ≡ p → Side may p fits some
side_at {may} {c} {p} {fits} {some} S e = subst (λ (n : ℕ). Side may n fits some) e S

-- ---- the test `s & !some != 0`, and the assignment

module _ (fits : List ℕ) (p s some : ℕ) (hs : s < 2 ^ 64) (hw : some < 2 ^ 64) where
  pub settled_unmarked : 0 < bit_and s ((2 ^ 64 - 1) - some) → Settled fits p s some false 0
  settled_unmarked h =
      let (x, i, z) = diff_some 64 s some hs hw h in
      record {
        both = record { holds = λ e. absurd (false≢true e); found = λ (M, a). absurd (not_both (M x i) z) };
        left = λ e. absurd (false≢true e);
        empty = λ _. refl;
      }

  pub settled_assigned : (complete : Bool) (spare : ℕ) → bit_and s ((2 ^ 64 - 1) - some) ≡ 0 → Exact fits p s complete spare
      → Settled fits p s some complete spare
  settled_assigned complete spare z E =
      record {
        both = record { holds = λ e. (diff_none 64 s some hs hw z, E.some.holds e); found = λ (M, a). E.some.found a };
        left = E.left;
        empty = E.empty;
      }

pub settled_at : {fits : List ℕ} {p q s some : ℕ} {complete : Bool} {spare : ℕ} → Settled fits p s some complete spare → p ≡ q
    → Settled fits q s some complete spare
settled_at {fits} {p} {q} {s} {some} {complete} {spare} S e = subst (λ (n : ℕ). Settled fits n s some complete spare) e S
