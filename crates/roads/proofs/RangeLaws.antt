-- Chains over a range: `any` of the numbers below n. Assumes nothing.
use mathlib.Core.Path.{◌≡◌, sym, subst}
use mathlib.Core.Logic.{⊎_elim}
use mathlib.Core.Bool.{Bool, true, true≢false}
use Prim.Native.Nat.{ℕ, zero, suc, ◌+◌, ◌≤◌, ◌<◌}
use native.Mathlib.Omega.{arith}
use native.Mathlib.Nat.{eq-or-lt_of_le}
use Rattle.std.specs.List.{list_any, range_with_len}
use Rattle.bitset.specs.Sets.{any}
use Rattle.bitset.proofs.BoolLaws.{iff, or_l, or_r, or_cases}
use Rattle.bitset.proofs.QuantLaws.{any_intro, any_elim}

module _ (p : ℕ → Bool) where
  some_in : (a n : ℕ) → list_any p (range_with_len a n) ≡ true → (k : ℕ) × (k < a + n) × (p k ≡ true)
  some_in a zero e = absurd (true≢false (sym e))
  some_in a (suc n) e =
      ⊎_elim (λ (t : p a ≡ true). (a, omega arith, t))
      (λ t. let r = some_in (a + 1) n t in (r.0, omega (arith, r.1), r.2))
      (or_cases (p a) (list_any p (range_with_len (a + 1) n)) e)

  in_some : (a n k : ℕ) → a ≤ k → k < a + n → p k ≡ true → list_any p (range_with_len a n) ≡ true
  in_some a zero k lo hi t = absurd (omega arith)
  in_some a (suc n) k lo hi t =
      ⊎_elim (λ (q : a ≡ k). or_l (list_any p (range_with_len (a + 1) n)) (subst (λ (x : ℕ). p x ≡ true) (sym q) t))
      (λ (l : a < k). or_r (p a) (in_some (a + 1) n k (omega arith) (omega arith) t))
      (eq-or-lt_of_le lo)

  pub any_range : (n : ℕ) → list_any p (range_with_len 0 n) ≡ any n p
  any_range n =
      iff (list_any p (range_with_len 0 n)) (any n p) (λ e. let r = some_in 0 n e in any_intro n p r.0 (omega (arith, r.1)) r.2)
      (λ e. let r = any_elim n p e in in_some 0 n r.0 (omega arith) (omega (arith, r.1)) r.2)
