-- What the machine's operations on words of m bits do to their members: `a & b`, `a | b`, `a & !b`, one member more, one less. Assumes nothing.
use mathlib.Core.Path.{◌≡◌, refl, sym, ap, ◌∙◌}
use mathlib.Core.Logic.{◌⊎◌, inl, inr, ⊎_elim}
use mathlib.Core.Bool.{Bool, true, false, not, ◌&&◌, ◌||◌, or-true, or-false}
use Prim.Native.Nat.{ℕ, ◌-◌, ◌^◌, ◌<◌}
use native.Mathlib.Omega.{arith}
use lib.Dec.{eqb}
use lib.Pow.{pow-lt, pow_pos}
use lib.Bits.{bit_and, bit_or, and_le_l, and_le_r, or_zero_l, or_add_and, or_disjoint}
use lib.Count.{count_trailing_zeros}
use borrow.Author.Tests.{eq-eqb, ne_eqb, eqb-true, eqb-false, not-true}
use Rattle.bitset.specs.Sets.{has, set_of}
use Rattle.bitset.proofs.BoolLaws.{not_both, cases, is_false, and_intro, and_l, and_r, or_l, or_r, or_cases}
use Rattle.bitset.proofs.HasLaws.{has_zero, has_and, has_or, member_below}
use Rattle.bitset.proofs.SetLaws.{has_diff, has_self, has_one, none_zero}
use Rattle.bitset.proofs.LeastLaws.{trailing_least, has_clear}
use Rattle.bitset.proofs.MachineLaws.{pow_set_of, within_of_diff}

-- ---- `a & b`

pub in_and : (a b u : ℕ) → has (bit_and a b) u ≡ true → (has a u ≡ true) × (has b u ≡ true)
in_and a b u i =
    let both : has a u && has b u ≡ true = sym (has_and a b u) ∙ i in
    (and_l (has a u) (has b u) both, and_r (has a u) (has b u) both)

-- `a & b == 0`
pub and_none : (a b u : ℕ) → bit_and a b ≡ 0 → has a u ≡ true → has b u ≡ true → ⊥
and_none a b u e p q = not_both (has_and a b u ∙ and_intro p q) (ap (λ (w : ℕ). has w u) e ∙ has_zero u)

-- `a & b != 0`
pub and_some : (m a b : ℕ) → a < 2 ^ m → 0 < bit_and a b → (u : ℕ) × (u < m) × (has a u ≡ true) × (has b u ≡ true)
and_some m a b h p =
    let u : ℕ = count_trailing_zeros m (bit_and a b) in
    let r = trailing_least m (bit_and a b) p (omega (arith, and_le_l a b)) in
    let (x, y) = in_and a b u r.member in
    (u, r.below, x, y)

-- ---- `a | b`

-- `a | b != 0`
pub or_some : (a b : ℕ) → not (eqb (bit_or a b) 0) ≡ not (eqb b 0) || not (eqb a 0)
or_some a b =
    ⊎_elim
    (λ (z : eqb a 0 ≡ true). ap (λ (x : ℕ). not (eqb x 0)) (ap (λ (x : ℕ). bit_or x b) (eqb-true a 0 z) ∙ or_zero_l b) ∙ sym (ap with_a z ∙ or-false (not (eqb b 0))))
    (λ (p : eqb a 0 ≡ false). ap not (ne_eqb (bit_or a b) 0 (λ e. eqb-false a 0 p (omega (arith, or_add_and a b, and_le_r a b)))) ∙ sym (ap with_a p ∙ or-true (not (eqb b 0))))
    (cases (eqb a 0))
  where
    with_a : Bool → Bool
    with_a x = not (eqb b 0) || not x

-- ---- `a & !b`

module _ (m a b : ℕ) (ha : a < 2 ^ m) (hb : b < 2 ^ m) where
  pub in_diff : (u : ℕ) → has (bit_and a ((2 ^ m - 1) - b)) u ≡ true → (has a u ≡ true) × (has b u ≡ false)
  in_diff u i =
      let l = member_below m a u ha (in_and a ((2 ^ m - 1) - b) u i).0 in
      let both : has a u && not (has b u) ≡ true = sym (has_diff m a b u hb l) ∙ i in
      (and_l (has a u) (not (has b u)) both, not-true (has b u) (and_r (has a u) (not (has b u)) both))

  pub diff_in : (u : ℕ) → has a u ≡ true → has b u ≡ false → has (bit_and a ((2 ^ m - 1) - b)) u ≡ true
  diff_in u p q = has_diff m a b u hb (member_below m a u ha p) ∙ and_intro p (ap not q)

  -- `a & !b == 0`
  pub diff_none : bit_and a ((2 ^ m - 1) - b) ≡ 0 → (u : ℕ) → has a u ≡ true → has b u ≡ true
  diff_none e u p = within_of_diff m a b hb e u (member_below m a u ha p) p

  -- `a & !b != 0`
  pub diff_some : 0 < bit_and a ((2 ^ m - 1) - b) → (u : ℕ) × (has a u ≡ true) × (has b u ≡ false)
  diff_some p =
      let v : ℕ = bit_and a ((2 ^ m - 1) - b) in
      let u : ℕ = count_trailing_zeros m v in
      let (x, y) = in_diff u (trailing_least m v p (omega (arith, and_le_l a ((2 ^ m - 1) - b)))).member in
      (u, x, y)

-- ---- one member more: `w | {s}`

-- what `singleton` ensures, of words of m bits
abbrev pub Single : ℕ → ℕ → ℕ → Type 0
Single m s x = x ≡ set_of m (λ j. eqb j s)

pub record With (w s r : ℕ) : Type 0 where
  pub here : has r s ≡ true
  pub kept : (u : ℕ) → has w u ≡ true → has r u ≡ true
  pub only : (u : ℕ) → has r u ≡ true → (u ≡ s) ⊎ (has w u ≡ true)
  pub more : has w s ≡ false → w < r

with_pow : (m w s : ℕ) → w < 2 ^ m → With w s (bit_or w (2 ^ s))
with_pow m w s h =
    record {
      here = has_or w (2 ^ s) s ∙ or_r (has w s) (has_self s);
      kept = λ u i. has_or w (2 ^ s) u ∙ or_l (has (2 ^ s) u) i;
      only = λ u i. ⊎_elim inr (λ p. inl (has_one s u p)) (or_cases (has w u) (has (2 ^ s) u) (sym (has_or w (2 ^ s) u) ∙ i));
      more = λ o. omega (arith, pow_pos s, or_disjoint w (2 ^ s) (apart o));
    }
  where
    apart : has w s ≡ false → bit_and w (2 ^ s) ≡ 0
    apart o =
        none_zero m (bit_and w (2 ^ s)) (omega (arith, and_le_l w (2 ^ s)))
        (λ k q. is_false (has (bit_and w (2 ^ s)) k) (λ i.
        let both = in_and w (2 ^ s) k i in
        not_both (ap (has w) (sym (has_one s k both.1)) ∙ both.0) o))

pub with_one : (m w s x : ℕ) → w < 2 ^ m → s < m → Single m s x → With w s (bit_or w x)
with_one m w s x h l e = rw (e, ← pow_set_of m s l) (with_pow m w s h)

-- ---- one member less: `w & !{s}` and `w & (w - 1)`

pub record Without (w s r : ℕ) : Type 0 where
  pub less : (u : ℕ) → has r u ≡ true → (has w u ≡ true) × (u ≡ s → ⊥)
  pub kept : (u : ℕ) → has w u ≡ true → (u ≡ s → ⊥) → has r u ≡ true

without_pow : (m w s : ℕ) → w < 2 ^ m → s < m → Without w s (bit_and w ((2 ^ m - 1) - 2 ^ s))
without_pow m w s h l =
    record {
      less = λ u i. let d = in_diff m w (2 ^ s) h (pow-lt l) u i in (d.0, λ e. not_both (ap (has (2 ^ s)) e ∙ has_self s) d.1);
      kept = λ u i n. diff_in m w (2 ^ s) h (pow-lt l) u i (is_false (has (2 ^ s) u) (λ p. n (has_one s u p)));
    }

pub without_one : (m w s x : ℕ) → w < 2 ^ m → s < m → Single m s x → Without w s (bit_and w ((2 ^ m - 1) - x))
without_one m w s x h l e = rw (e, ← pow_set_of m s l) (without_pow m w s h l)

pub without_least : (m w s : ℕ) → 0 < w → w < 2 ^ m → s ≡ count_trailing_zeros m w → Without w s (bit_and w (w - 1))
without_least m w s p h e = rw e (record { less = less; kept = kept })
  where
    t : ℕ
    t = count_trailing_zeros m w

    less : (u : ℕ) → has (bit_and w (w - 1)) u ≡ true → (has w u ≡ true) × (u ≡ t → ⊥)
    less u i =
        let both : has w u && not (eqb u t) ≡ true = sym (has_clear m w u p h) ∙ i in
        (and_l (has w u) (not (eqb u t)) both, λ q. not_both (eq-eqb u t q) (not-true (eqb u t) (and_r (has w u) (not (eqb u t)) both)))

    kept : (u : ℕ) → has w u ≡ true → (u ≡ t → ⊥) → has (bit_and w (w - 1)) u ≡ true
    kept u i n = has_clear m w u p h ∙ and_intro i (ap not (ne_eqb u t n))

-- a word that lost a member is less
pub fewer : (w s x : ℕ) → has w s ≡ true → Without w s (bit_and w x) → bit_and w x < w
fewer w s x i d =
    let ne : bit_and w x ≡ w → ⊥ = λ e. (d.less s (ap (λ (v : ℕ). has v s) e ∙ i)).1 refl in
    omega (arith, and_le_l w x)
