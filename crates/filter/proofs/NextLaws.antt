-- The list of the next stations: where it leads, and the legs of the table that it stands for. Assumes nothing.
use mathlib.Core.Path.{◌≡◌, sym, ap, ◌∙◌, subst}
use mathlib.Core.Logic.{⊎_elim}
use mathlib.Core.Bool.{true, false, ◌||◌}
use mathlib.Core.List.{List}
use Prim.Native.Nat.{ℕ, zero, suc, ◌≤◌, ◌<◌}
use native.Mathlib.Omega.{arith}
use lib.Dec.{eqb, ltb}
use lib.ListN.{get_or, get_or-eq_default}
use borrow.Author.Tests.{eqb-true, eq-eqb, ltb-false}
use Rattle.bitset.specs.Sets.{first, size}
use Rattle.bitset.specs.Upto.{row}
use Rattle.bitset.proofs.BoolLaws.{or_false_l, or_false_r}
use Rattle.bitset.proofs.FirstLaws.{first_at, first_found}
use Rattle.bitset.proofs.OnesLaws.{size_same}
use Rattle.bitset.proofs.QuantLaws.{below?, any_intro, any_elim, any_false}
use Rattle.bitset.proofs.SetLaws.{has_set_of}
use Rattle.bitset.proofs.UptoLaws.{get_d_upto, length_upto}
use Rattle.circuit.specs.Legs.{leg, col}
use Rattle.filter.specs.Chain.{forked, nexts, along, joined}

-- k legs lead from a to b, k from 1 to f
pub joined_intro : (n : ℕ) (s : List ℕ) (f a b k : ℕ) → 0 < k → k ≤ f → along n s k a ≡ b → joined n s f a b ≡ true
unfolding joined
joined_intro n s f a b zero p l e = absurd (omega arith)
joined_intro n s f a b (suc k) p l e = any_intro f (λ k. eqb (along n s (suc k) a) b) k (omega arith) (eq-eqb (along n s (suc k) a) b e)

pub joined_elim : (n : ℕ) (s : List ℕ) (f a b : ℕ) → joined n s f a b ≡ true → (k : ℕ) × (0 < k) × (k ≤ f) × (along n s k a ≡ b)
unfolding joined
joined_elim n s f a b e =
    let r = any_elim f (λ k. eqb (along n s (suc k) a) b) e in
    let l : r.0 < f = r.1 in
    (suc r.0, omega arith, omega arith, eqb-true (along n s (suc r.0) a) b r.2)

module _ (n : ℕ) (m : List ℕ) where
  abbrev s : List ℕ
  s = nexts n m

  pub next_at : (i : ℕ) → i < n → get_or s i n ≡ first n (leg m i)
  unfolding nexts
  next_at i l = get_d_upto n (λ i. first n (leg m i)) n i l

  pub next_beyond : (i : ℕ) → n ≤ i → get_or s i n ≡ n
  unfolding nexts
  next_beyond i g = get_or-eq_default s n (subst (λ (x : ℕ). x ≤ i) (sym (length_upto n (λ i. first n (leg m i)))) g)

  -- where the list leads to a station, a leg does
  pub next_leg : (i : ℕ) → get_or s i n < n → (i < n) × (leg m i (get_or s i n) ≡ true)
  next_leg i l = ⊎_elim inside beyond (below? i n)
    where
      inside : i < n → (i < n) × (leg m i (get_or s i n) ≡ true)
      inside li = let e = next_at i li in (li, ap (leg m i) e ∙ first_found n (leg m i) (subst (λ (x : ℕ). x < n) e l))

      beyond : n ≤ i → (i < n) × (leg m i (get_or s i n) ≡ true)
      beyond g = let e = next_beyond i g in absurd (omega arith)

  -- ---- where no two legs leave or enter one station

  module _ (one : forked n m ≡ false) where
    few : (i : ℕ) → i < n → (size n (row m i) ≤ 1) × (size n (col n m i) ≤ 1)
    unfolding forked
    few i l =
        let e = any_false n (λ i. ltb 1 (size n (row m i)) || ltb 1 (size n (col n m i))) i one l in
        (ltb-false 1 (size n (row m i)) (or_false_l (ltb 1 (size n (row m i))) (ltb 1 (size n (col n m i))) e), ltb-false 1 (size n (col n m i)) (or_false_r (ltb 1 (size n (row m i))) (ltb 1 (size n (col n m i))) e))

    pub same_next : (i j k : ℕ) → i < n → j < n → k < n → leg m i j ≡ true → leg m i k ≡ true → j ≡ k
    unfolding leg
    same_next i j k li lj lk ej ek = size_same n (row m i) j k (few i li).0 lj lk ej ek

    pub same_previous : (i j k : ℕ) → i < n → j < n → k < n → leg m j i ≡ true → leg m k i ≡ true → j ≡ k
    unfolding col
    same_previous i j k li lj lk ej ek =
        size_same n (col n m i) j k (few i li).1 lj lk (has_set_of n (λ j. leg m j i) j lj ∙ ej) (has_set_of n (λ j. leg m j i) k lk ∙ ek)

    -- where there is a leg, the list leads along it
    pub leg_next : (i j : ℕ) → i < n → j < n → leg m i j ≡ true → get_or s i n ≡ j
    leg_next i j li lj e = let f = first_at n (leg m i) j lj e in next_at i li ∙ same_next i (first n (leg m i)) j li f.0 lj f.1 e
