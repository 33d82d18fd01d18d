-- Words with no member, with one, and with more. Assumes nothing.
use mathlib.Core.Path.{◌≡◌, refl, sym, ap, ap₂, ◌∙◌}
use mathlib.Core.Logic.{⊎_elim}
use mathlib.Core.Bool.{Bool, true, false, not, cond, ◌&&◌, and-true, and-false}
use Prim.Native.Nat.{ℕ, ◌-◌, ◌^◌, ◌≤◌, ◌<◌}
use native.Mathlib.Nat.{lt_trans}
use native.Mathlib.Omega.{arith}
use lib.Bits.{bit_and}
use lib.Count.{ones}
use lib.Dec.{eqb, ltb}
use lib.Pow.{pow-lt}
use borrow.Author.Tests.{eqb-true, eqb-false, eq-eqb, ne_eqb, lt-ltb, le-ltb, not-true, not-false}
use Rattle.bitset.specs.Sets.{has, any}
use Rattle.bitset.proofs.BoolLaws.{iff, not_both, clash, cases, is_false, and_intro, and_l, and_r, cond_true, cond_false, cond_elim, taut1}
use Rattle.bitset.proofs.QuantLaws.{below?, any_intro, any_elim, any_none, any_false, any_ext}
use Rattle.bitset.proofs.HasLaws.{has_zero, has_pow, ext}
use Rattle.bitset.proofs.SetLaws.{has_self, none_zero}
use Rattle.bitset.proofs.LeastLaws.{ones_clear}
use Rattle.bitset.proofs.OnesLaws.{ones_pow, ones_zero, ones_pos, pow_within, within_eq}
use Rattle.filter.specs.inner.Singles.{single, two}

-- ---- the only member

-- a word with the only member j
pub single_pow : (m w j : ℕ) → w < 2 ^ m → j < m → has (cond (single w) w 0) j ≡ eqb w (2 ^ j)
single_pow m w j h l = iff (has (cond (single w) w 0) j) (eqb w (2 ^ j)) there back
  where
    there : has (cond (single w) w 0) j ≡ true → eqb w (2 ^ j) ≡ true
    there e =
        ⊎_elim
        (λ (q : single w ≡ true).
        let one : ones w ≡ 1 = eqb-true (ones w) 1 q in
        let has_j : has w j ≡ true = ap (λ (x : ℕ). has x j) (sym (cond_true w 0 q)) ∙ e in
        eq-eqb w (2 ^ j) (sym (within_eq m (2 ^ j) w (pow-lt l) h (pow_within m w j has_j) (omega (arith, one, ones_pow j)))))
        (λ (q : single w ≡ false). clash (sym e ∙ ap (λ (x : ℕ). has x j) (cond_false w 0 q) ∙ has_zero j)) (cases (single w))

    back : eqb w (2 ^ j) ≡ true → has (cond (single w) w 0) j ≡ true
    back e =
        let q : w ≡ 2 ^ j = eqb-true w (2 ^ j) e in
        ap (λ (x : ℕ). has x j) (cond_true w 0 (eq-eqb (ones w) 1 (ap ones q ∙ ones_pow j)) ∙ q) ∙ has_self j

pub only_bit : (m w j : ℕ) → w < 2 ^ m → j < m → eqb w (2 ^ j) ≡ has w j && single w
only_bit m w j h l =
    sym (single_pow m w j h l)
    ∙ cond_elim (λ (x : ℕ). has x j ≡ has w j && single w) (single w) w 0 (λ e. sym (ap (λ (b : Bool). has w j && b) e ∙ and-true (has w j)))
    (λ e. has_zero j ∙ sym (ap (λ (b : Bool). has w j && b) e ∙ and-false (has w j)))

-- the empty word has no only member
pub zero_single : single 0 ≡ false
zero_single = ap (λ (k : ℕ). eqb k 1) ones_zero

-- `w & (w - 1) == 0`
pub single_test : (w : ℕ) → 0 < w → w < 2 ^ 64 → eqb (bit_and w (w - 1)) 0 ≡ single w
single_test w l h = iff (eqb rest 0) (single w) there back
  where
    rest : ℕ
    rest = bit_and w (w - 1)

    there : eqb rest 0 ≡ true → single w ≡ true
    there e =
        let z : ones rest ≡ 0 = ap ones (eqb-true rest 0 e) ∙ ones_zero in
        eq-eqb (ones w) 1 (omega (arith, z, ones_clear 64 w l h))

    back : single w ≡ true → eqb rest 0 ≡ true
    back e =
        ⊎_elim (λ (m : 0 < rest). let no : ⊥ = omega (arith, eqb-true (ones w) 1 e, ones_pos rest m, ones_clear 64 w l h) in absurd no) (λ (m : rest ≤ 0). eq-eqb rest 0 (omega arith)) (below? 0 rest)

-- `w & (w - 1) != 0`
pub more_test : (w : ℕ) → 0 < w → w < 2 ^ 64 → not (eqb (bit_and w (w - 1)) 0) ≡ ltb 1 (ones w)
more_test w l h =
    ap not (single_test w l h)
    ∙ ⊎_elim (λ (m : 1 < ones w). ap not (ne_eqb (ones w) 1 (λ z. omega arith)) ∙ sym (lt-ltb 1 (ones w) m))
    (λ (m : ones w ≤ 1). ap not (eq-eqb (ones w) 1 (omega (arith, m, ones_pos w l))) ∙ sym (le-ltb 1 (ones w) m)) (below? 1 (ones w))

-- ---- two that pass

-- of two that pass, one passes
pub twice_once : (n : ℕ) (p : ℕ → Bool) → two n p ≡ true → any n p ≡ true
twice_once n p e = let f = any_elim n (λ k. p k && any k p) e in any_intro n p f.0 f.1 (and_l (p f.0) (any f.0 p) f.2)

pub two_ext : (n : ℕ) (p q : ℕ → Bool) → ((k : ℕ) → k < n → p k ≡ q k) → two n p ≡ two n q
two_ext n p q e = any_ext n (λ k. p k && any k p) (λ k. q k && any k q) (λ k l. ap₂ (λ (a b : Bool). a && b) (e k l) (any_ext k p q (λ m h. e m (lt_trans h l))))

-- of a station that passes, some other passes too: two pass
pub other_pair : (n : ℕ) (q : ℕ → Bool) (i : ℕ) → i < n → q i ≡ true → any n (λ k. not (eqb k i) && q k) ≡ any n (λ k. q k && any k q)
other_pair n q i l e = iff (any n (λ k. not (eqb k i) && q k)) (any n (λ k. q k && any k q)) there back
  where
    there : any n (λ k. not (eqb k i) && q k) ≡ true → any n (λ k. q k && any k q) ≡ true
    there h =
        let f = any_elim n (λ k. not (eqb k i) && q k) h in
        let k = f.0 in
        let pass : q k ≡ true = and_r (not (eqb k i)) (q k) f.2 in
        let ne : k ≡ i → ⊥ = eqb-false k i (not-true (eqb k i) (and_l (not (eqb k i)) (q k) f.2)) in
        ⊎_elim
        (λ (m : k < i). any_intro n (λ k. q k && any k q) i l (and_intro e (any_intro i q k m pass)))
        (λ (m : i ≤ k). any_intro n (λ k. q k && any k q) k f.1 (and_intro pass (any_intro k q i (omega arith) e))) (below? k i)

    back : any n (λ k. q k && any k q) ≡ true → any n (λ k. not (eqb k i) && q k) ≡ true
    back h =
        let f = any_elim n (λ k. q k && any k q) h in
        let a = f.0 in
        let g = any_elim a q (and_r (q a) (any a q) f.2) in
        let b = g.0 in
        let lb : b < a = g.1 in
        ⊎_elim
        (λ (m : eqb a i ≡ true).
        let eq : a ≡ i = eqb-true a i m in
        any_intro n (λ k. not (eqb k i) && q k) b (omega (arith, f.1)) (and_intro (ap not (ne_eqb b i (λ (x : b ≡ i). omega arith))) g.2))
        (λ (m : eqb a i ≡ false). any_intro n (λ k. not (eqb k i) && q k) a f.1 (and_intro (ap not m) (and_l (q a) (any a q) f.2))) (cases (eqb a i))

-- of a station that does not pass, some other passes: one passes
pub other_once : (n : ℕ) (q : ℕ → Bool) (i : ℕ) → q i ≡ false → any n (λ k. not (eqb k i) && q k) ≡ any n q
other_once n q i e = iff (any n (λ k. not (eqb k i) && q k)) (any n q) there back
  where
    there : any n (λ k. not (eqb k i) && q k) ≡ true → any n q ≡ true
    there h = let f = any_elim n (λ k. not (eqb k i) && q k) h in any_intro n q f.0 f.1 (and_r (not (eqb f.0 i)) (q f.0) f.2)

    back : any n q ≡ true → any n (λ k. not (eqb k i) && q k) ≡ true
    back h =
        let f = any_elim n q h in
        any_intro n (λ k. not (eqb k i) && q k) f.0 f.1
        (and_intro (ap not (ne_eqb f.0 i (λ (x : f.0 ≡ i). not_both f.2 (ap q x ∙ e)))) f.2)

-- ---- how many members

module _ (m w : ℕ) (fits : w < 2 ^ m) where
  pub zero_is : eqb w 0 ≡ not (any m (has w))
  zero_is =
      iff (eqb w 0) (not (any m (has w)))
      (λ e. ap not (any_none m (has w) (λ k l. ap (λ (x : ℕ). has x k) (eqb-true w 0 e) ∙ has_zero k)))
      (λ e. eq-eqb w 0 (none_zero m w fits (λ k l. any_false m (has w) k (not-true (any m (has w)) e) l)))

  -- of a member b: the word has no other
  single_at : (b : ℕ) → b < m → has w b ≡ true → single w ≡ not (any m (λ k. not (eqb k b) && has w k))
  single_at b l e = iff (single w) (not (any m (λ k. not (eqb k b) && has w k))) there back
    where
      there : single w ≡ true → not (any m (λ k. not (eqb k b) && has w k)) ≡ true
      there s =
          let is : w ≡ 2 ^ b = eqb-true w (2 ^ b) (sym (single_pow m w b fits l) ∙ ap (λ (x : ℕ). has x b) (cond_true w 0 s) ∙ e) in
          ap not (any_none m (λ k. not (eqb k b) && has w k) (λ k _.
          ap (λ (x : ℕ). not (eqb k b) && has x k) is ∙ ap (λ (x : Bool). not (eqb k b) && x) (has_pow b k) ∙ taut1 (λ a. not a && a) (λ a. false) refl (eqb k b)))

      back : not (any m (λ k. not (eqb k b) && has w k)) ≡ true → single w ≡ true
      back n =
          let is : w ≡ 2 ^ b = ext m w (2 ^ b) fits (pow-lt l) (λ k lk. ⊎_elim
          (λ (q : eqb k b ≡ true). ap (has w) (eqb-true k b q) ∙ e ∙ sym (has_pow b k ∙ q))
          (λ (q : eqb k b ≡ false).
          ap (λ (x : Bool). not x && has w k) (sym q) ∙ any_false m (λ k. not (eqb k b) && has w k) k (not-true (any m (λ k. not (eqb k b) && has w k)) n) lk ∙ sym (has_pow b k ∙ q)) (cases (eqb k b))) in
          eq-eqb (ones w) 1 (ap ones is ∙ ones_pow b)

  pub single_is : single w ≡ any m (has w) && not (two m (has w))
  single_is = ⊎_elim some none (cases (any m (has w)))
    where
      some : any m (has w) ≡ true → single w ≡ any m (has w) && not (two m (has w))
      some e =
          let f = any_elim m (has w) e in
          single_at f.0 f.1 f.2 ∙ ap not (other_pair m (has w) f.0 f.1 f.2) ∙ ap (λ (b : Bool). b && not (two m (has w))) (sym e)

      none : any m (has w) ≡ false → single w ≡ any m (has w) && not (two m (has w))
      none e = ap single (eqb-true w 0 (zero_is ∙ ap not e)) ∙ zero_single ∙ ap (λ (b : Bool). b && not (two m (has w))) (sym e)

  pub some_is : ltb 0 w ≡ any m (has w)
  some_is =
      ⊎_elim (λ l. lt-ltb 0 w l ∙ sym (not-false (any m (has w)) (sym zero_is ∙ ne_eqb w 0 (λ z. omega arith)))) (λ g. le-ltb 0 w g ∙ sym (not-true (any m (has w)) (sym zero_is ∙ eq-eqb w 0 (omega arith)))) (below? 0 w)

  pub two_is : two m (has w) ≡ ltb 1 (ones w)
  two_is = ⊎_elim more most (below? 1 (ones w))
    where
      -- by how many there are
      told : {a b : Bool} → single w ≡ a → ltb 0 w ≡ b → a ≡ b && not (two m (has w))
      told p q = sym p ∙ single_is ∙ ap (λ (b : Bool). b && not (two m (has w))) (sym some_is ∙ q)

      more : 1 < ones w → two m (has w) ≡ ltb 1 (ones w)
      more l =
          let pos : 0 < w = ⊎_elim (λ h. h) (λ g. let z : w ≡ 0 = omega arith in let no : ⊥ = omega (arith, l, ap ones z ∙ ones_zero) in absurd no) (below? 0 w) in
          not-false (two m (has w)) (sym (told (ne_eqb (ones w) 1 (λ z. omega arith)) (lt-ltb 0 w pos))) ∙ sym (lt-ltb 1 (ones w) l)

      most : ones w ≤ 1 → two m (has w) ≡ ltb 1 (ones w)
      most g =
          ⊎_elim (λ l. not-true (two m (has w)) (sym (told (eq-eqb (ones w) 1 (omega (arith, g, ones_pos w l))) (lt-ltb 0 w l))))
          (λ h. is_false (two m (has w)) (λ e. not_both (twice_once m (has w) e) (sym some_is ∙ le-ltb 0 w h))) (below? 0 w)
          ∙ sym (le-ltb 1 (ones w) g)
