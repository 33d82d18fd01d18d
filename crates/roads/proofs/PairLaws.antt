-- Counts of pairs: the other way round, one pair less. Assumes nothing.
use mathlib.Core.Path.{◌≡◌, refl, sym, ap, ◌∙◌}
use mathlib.Core.Bool.{Bool, true, false, not, ◌&&◌, and-true}
use Prim.Native.Nat.{ℕ, suc, ◌≤◌, ◌<◌}
use native.Mathlib.Nat.{not-suc-le-zero, le_refl}
use native.Mathlib.Omega.{arith}
use lib.Dec.{eqb}
use borrow.Author.Tests.{eqb-true, eq-eqb}
use Rattle.bitset.specs.Sets.{digit}
use Rattle.bitset.proofs.BoolLaws.{not_both, and_l, and_r, and_intro, is_false}
use Rattle.bitset.proofs.SumLaws.{sum_ext, sum_mono, sum_more, sum_swap, sum_some}
use Rattle.bitset.specs.Sets.{sum}
use Rattle.roads.specs.Cut.{total, Rel}

-- ---- pairs

digit_true : {b : Bool} → b ≡ true → digit b ≡ 1
unfolding digit
digit_true e = ap digit e

pub digit_false : {b : Bool} → b ≡ false → digit b ≡ 0
unfolding digit
digit_false e = ap digit e

digit_pos : (b : Bool) → 0 < digit b → b ≡ true
unfolding digit
digit_pos true h = refl
digit_pos false h = absurd (not-suc-le-zero h)

digit_mono : (a b : Bool) → (a ≡ true → b ≡ true) → digit a ≤ digit b
unfolding digit
digit_mono true b f = rw (f refl) (le_refl 1)
digit_mono false b f = omega arith

pub total_ext : (n : ℕ) (c d : Rel) → ((i j : ℕ) → i < n → j < n → c i j ≡ d i j) → total n c ≡ total n d
unfolding total
total_ext n c d e = sum_ext n _ _ (λ i l. sum_ext n _ _ (λ j k. ap digit (e i j l k)))

pub total_mono : (n : ℕ) (c d : Rel) → ((i j : ℕ) → i < n → j < n → c i j ≡ true → d i j ≡ true) → total n c ≤ total n d
unfolding total
total_mono n c d e = sum_mono n _ _ (λ i l. sum_mono n _ _ (λ j k. digit_mono (c i j) (d i j) (e i j l k)))

pub total_turn : (n : ℕ) (c : Rel) → total n c ≡ total n (λ i j. c j i)
unfolding total
total_turn n c = sum_swap n n (λ i j. digit (c i j))

pub total_some : (n : ℕ) (c : Rel) → 0 < total n c → (i : ℕ) × (j : ℕ) × (i < n) × (j < n) × (c i j ≡ true)
unfolding total
total_some n c h =
    let r = sum_some n (λ i. sum n (λ j. digit (c i j))) h in
    let s = sum_some n (λ j. digit (c r.0 j)) r.2 in
    (r.0, s.0, r.1, s.1, digit_pos (c r.0 s.0) s.2)

-- the pairs other than (a, b)
unfoldable pub less : Rel → ℕ → ℕ → Rel
less c a b i j = c i j && not (eqb i a && eqb j b)

pub less_is : (c : Rel) (a b i j : ℕ) → less c a b i j ≡ true → c i j ≡ true
unfolding less
less_is c a b i j e = and_l (c i j) _ e

pub less_apart : (c : Rel) (a b : ℕ) → less c a b a b ≡ true → ⊥
unfolding less
less_apart c a b e =
    not_both (and_r (c a b) _ e) (ap not (and_intro (eq-eqb a a refl) (eq-eqb b b refl)))

pub less_other : (c : Rel) (a b i j : ℕ) → (i ≡ a → j ≡ b → ⊥) → less c a b i j ≡ c i j
unfolding less
less_other c a b i j f =
    ap (λ (x : Bool). c i j && not x)
    (is_false (eqb i a && eqb j b) (λ t. f (eqb-true i a (and_l (eqb i a) (eqb j b) t)) (eqb-true j b (and_r (eqb i a) (eqb j b) t))))
    ∙ and-true (c i j)

pub total_less : (n : ℕ) (c : Rel) (a b : ℕ) → a < n → b < n → c a b ≡ true → total n c ≡ suc (total n (less c a b))
unfolding total
total_less n c a b la lb e =
    sum_more n (λ i. sum n (λ j. digit (c i j))) (λ i. sum n (λ j. digit (less c a b i j))) a 1 la
    (sum_more n (λ j. digit (c a j)) (λ j. digit (less c a b a j)) b 1 lb
    (let x : digit (c a b) ≡ 1 = digit_true e in
    let y : digit (less c a b a b) ≡ 0 = digit_false (is_false (less c a b a b) (less_apart c a b)) in
    omega arith)
    (λ j l f. ap digit (sym (less_other c a b a j (λ _ q. f q)))))
    (λ i l f. sum_ext n _ _ (λ j k. ap digit (sym (less_other c a b i j (λ q _. f q)))))
    ∙ omega arith
