-- The legs of a row in the text: walked from the least on, and their length by counts of ones. Assumes nothing.
use mathlib.Core.Path.{◌≡◌, refl, sym, ap, ap₂, ◌∙◌}
use mathlib.Core.Logic.{⊎_elim}
use mathlib.Core.Bool.{Bool, true, false, not, cond, ◌&&◌, and-true}
use mathlib.Core.List.{List, [], ◌++◌}
use Prim.Native.Nat.{ℕ, zero, suc, ◌+◌, ◌-◌, ◌*◌, ◌^◌, ◌≤◌, ◌<◌}
use native.Mathlib.Nat.{zero-add, add-zero, eq-or-lt_of_le}
use native.Mathlib.Omega.{arith}
use lib.Bits.{bit_and, and_le_l}
use lib.Count.{ones, count_trailing_zeros}
use lib.Dec.{eqb, ltb}
use lib.ListN.{length, length-append}
use borrow.Author.Tests.{eq-eqb, ne_eqb, lt-ltb, le-ltb}
use Rattle.bitset.specs.Sets.{digit, has, count, size}
use Rattle.bitset.specs.inner.Members.{Parts}
use Rattle.bitset.proofs.BoolLaws.{cond_true, cond_false}
use Rattle.bitset.proofs.HasLaws.{has_zero}
use Rattle.bitset.proofs.QuantLaws.{below?}
use Rattle.bitset.proofs.SetLaws.{has_diff}
use Rattle.bitset.proofs.OnesLaws.{size_ones}
use Rattle.bitset.proofs.LeastLaws.{trailing_least, has_clear}
use Rattle.bitset.proofs.MachineLaws.{has_ones}
use Rattle.writer.proofs.NumberLaws.{decimal_one, decimal_two}
use Rattle.report.specs.Lines.{leg_to, legs_to}

-- members below k do not matter
legs_same : (m k w v : ℕ) → ((j : ℕ) → k ≤ j → has w j ≡ has v j) → legs_to m k w ≡ legs_to m k v
unfolding legs_to
legs_same zero k w v f = refl
legs_same (suc m) k w v f =
    ap₂ (λ (b : Bool) (rest : List ℕ). cond b (leg_to k ++ rest) rest) (f k (omega arith)) (legs_same m (suc k) w v (λ j l. f j (omega arith)))

legs_none : (m k w : ℕ) → ((j : ℕ) → k ≤ j → has w j ≡ false) → legs_to m k w ≡ []
unfolding legs_to
legs_none zero k w f = refl
legs_none (suc m) k w f = cond_false _ (legs_to m (suc k) w) (f k (omega arith)) ∙ legs_none m (suc k) w (λ j l. f j (omega arith))

pub legs_empty : (m : ℕ) → legs_to m 0 0 ≡ []
legs_empty m = legs_none m 0 0 (λ j l. has_zero j)

-- v is w without its least member t
legs_from : (m k w v t : ℕ) → k ≤ t → t < k + m → has w t ≡ true → ((j : ℕ) → j < t → has w j ≡ false) → ((j : ℕ) → has v j ≡ has w j && not (eqb j t))
    → legs_to m k w ≡ leg_to t ++ legs_to m k v
unfolding legs_to
legs_from zero k w v t g l member least rest = absurd (omega arith)
legs_from (suc m) k w v t g l member least rest = ⊎_elim here (λ h. later h (legs_from m (suc k) w v t h (omega arith) member least rest)) (eq-or-lt_of_le g)
  where
    after : (j : ℕ) → suc k ≤ j → k ≡ t → has w j ≡ has v j
    after j l e = sym (rest j ∙ ap (λ (b : Bool). has w j && not b) (ne_eqb j t (λ q. omega arith)) ∙ and-true (has w j))

    here : k ≡ t → legs_to (suc m) k w ≡ leg_to t ++ legs_to (suc m) k v
    here e =
        let taken : has w k ≡ true = ap (has w) e ∙ member in
        let gone : has v k ≡ false = rest k ∙ ap₂ (λ (a b : Bool). a && not b) taken (eq-eqb k t e) in
        cond_true (leg_to k ++ legs_to m (suc k) w) _ taken
        ∙ ap₂ (λ (j : ℕ) (l : List ℕ). leg_to j ++ l) e (legs_same m (suc k) w v (λ j l. after j l e) ∙ sym (cond_false (leg_to k ++ legs_to m (suc k) v) _ gone))

    later : k < t → legs_to m (suc k) w ≡ leg_to t ++ legs_to m (suc k) v → legs_to (suc m) k w ≡ leg_to t ++ legs_to (suc m) k v
    later h q =
        let gone : has v k ≡ false = rest k ∙ ap (λ (a : Bool). a && not (eqb k t)) (least k h) in
        cond_false (leg_to k ++ legs_to m (suc k) w) _ (least k h) ∙ q
        ∙ ap (λ (l : List ℕ). leg_to t ++ l) (sym (cond_false (leg_to k ++ legs_to m (suc k) v) _ gone))

-- a step of the iterator over the members: the least leg, and those of the rest
pub legs_parts : {w k v : ℕ} → w < 2 ^ 64 → Parts w k v → legs_to 64 0 w ≡ leg_to k ++ legs_to 64 0 v
legs_parts {w} {k} {v} h p =
    let g = trailing_least 64 w p.nonempty h in
    let least : k ≡ count_trailing_zeros 64 w = p.least in
    let others : v ≡ bit_and w (w - 1) = p.others in
    rw (least, others) (legs_from 64 0 w (bit_and w (w - 1)) (count_trailing_zeros 64 w) (omega arith) (omega (arith, g.below)) g.member g.least
    (λ j. has_clear 64 w j p.nonempty h))

-- ---- the length: a leg takes two bytes, and from station 10 on a third one

leg_length : (k : ℕ) → k < 64 → length (leg_to k) ≡ 2 + digit (not (ltb k 9))
unfolding digit
leg_length k l = ⊎_elim narrow wide (below? k 9)
  where
    narrow : k < 9 → length (leg_to k) ≡ 2 + digit (not (ltb k 9))
    narrow h = rw (lt-ltb k 9 h, decimal_one (k + 1) (omega arith))

    wide : 9 ≤ k → length (leg_to k) ≡ 2 + digit (not (ltb k 9))
    wide h = rw (le-ltb k 9 h, decimal_two (k + 1) (omega arith) (omega arith))

maybe_length : (k : ℕ) (rest : List ℕ) → k < 64 → (b : Bool) → length (cond b (leg_to k ++ rest) rest) ≡ 2 * digit b + digit (b && not (ltb k 9)) + length rest
unfolding digit
maybe_length k rest l true = omega (arith, length-append (leg_to k) rest, leg_length k l)
maybe_length k rest l false = omega arith

-- p tests for a leg, q for one from station 10 on
legs_count : (m k w : ℕ) (p q : ℕ → Bool) → k + m ≤ 64 → ((j : ℕ) → p j ≡ has w (k + j)) → ((j : ℕ) → j < m → q j ≡ has w (k + j) && not (ltb (k + j) 9))
    → length (legs_to m k w) ≡ 2 * count m p + count m q
unfolding legs_to count
legs_count zero k w p q l f g = refl
legs_count (suc m) k w p q l f g =
    let shift : (j : ℕ) → k + suc j ≡ suc k + j = λ j. omega arith in
    let rest = legs_count m (suc k) w (λ j. p (suc j)) (λ j. q (suc j)) (omega arith) (λ j. f (suc j) ∙ ap (has w) (shift j))
    (λ j h. g (suc j) (omega arith) ∙ ap (λ (x : ℕ). has w x && not (ltb x 9)) (shift j)) in
    let first : p 0 ≡ has w k = f 0 ∙ ap (has w) (add-zero k) in
    let second : q 0 ≡ has w k && not (ltb k 9) = g 0 (omega arith) ∙ ap (λ (x : ℕ). has w x && not (ltb x 9)) (add-zero k) in
    omega (arith, maybe_length k (legs_to m (suc k) w) (omega arith) (has w k), ap digit first, ap digit second, rest)

pub legs_length : (w : ℕ) → w < 2 ^ 64 → length (legs_to 64 0 w) ≡ 2 * ones w + ones (bit_and w ((2 ^ 64 - 1) - (2 ^ 9 - 1)))
unfolding size
legs_length w h =
    let v : ℕ = bit_and w ((2 ^ 64 - 1) - (2 ^ 9 - 1)) in
    let wide : (j : ℕ) → j < 64 → has v j ≡ has w j && not (ltb j 9) =
    λ j l. has_diff 64 w (2 ^ 9 - 1) j (omega arith) l ∙ ap (λ (b : Bool). has w j && not b) (has_ones 9 j) in
    legs_count 64 0 w (has w) (has v) (omega arith) (λ j. ap (has w) (sym (zero-add j)))
    (λ j l. wide j l ∙ ap (λ (x : ℕ). has w x && not (ltb x 9)) (sym (zero-add j)))
    ∙ ap₂ (λ (a b : ℕ). 2 * a + b) (size_ones 64 w h) (size_ones 64 v (omega (arith, and_le_l w ((2 ^ 64 - 1) - (2 ^ 9 - 1)))))
