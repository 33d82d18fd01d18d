-- The choice theorem for a choice that takes a given pair bare: besides, the pair's leg stands and the representatives leave the station out.
-- Assumes nothing.
use mathlib.Core.Path.{◌≡◌, refl, sym, ap, ap₂, ◌∙◌, subst}
use mathlib.Core.Logic.{⊎_elim}
use mathlib.Core.Bool.{Bool, true, not, ◌&&◌, ◌||◌}
use Prim.Native.Nat.{ℕ, suc, ◌<◌}
use native.Mathlib.Nat.{zero-lt-suc}
use native.Mathlib.Omega.{arith}
use lib.Dec.{eqb}
use borrow.Author.Tests.{eq-eqb, ne_eqb, eqb-true, eqb-false, not-true}
use Rattle.bitset.specs.Sets.{has, any}
use Rattle.bitset.proofs.BoolLaws.{not_both, cases, and_intro, and_l, and_r, or_l, or_r, or_cases}
use Rattle.bitset.proofs.QuantLaws.{any_intro, any_elim}
use Rattle.separator.specs.Level.{choice, takes}
use Rattle.separator.specs.Representatives.{Representatives, AllMarked, CanTake}
use Rattle.separator.proofs.RepresentativeLaws.{choice_gives, choice_found}

module _ (n s p : ℕ) (may : ℕ → ℕ → ℕ → Bool) (x y : ℕ) where
  abbrev HasMark : (ℕ → ℕ → ℕ → Bool) → ℕ → Type 0
  HasMark on a = any n (λ b. any (suc p) (on a b)) ≡ true

  -- ---- the relation: x takes y bare, the others are as they were

  takes_may : (a b m : ℕ) → takes x y may a b m ≡ true → may a b m ≡ true
  unfolding takes
  takes_may a b m e = and_l (may a b m) (not (eqb a x) || eqb b y && eqb m 0) e

  takes_only : (a b m : ℕ) → takes x y may a b m ≡ true → a ≡ x → (b ≡ y) × (m ≡ 0)
  unfolding takes
  takes_only a b m e q =
      ⊎_elim
      (λ f. absurd (not_both (eq-eqb a x q) (not-true (eqb a x) f)))
      (λ f. (eqb-true b y (and_l (eqb b y) (eqb m 0) f), eqb-true m 0 (and_r (eqb b y) (eqb m 0) f)))
      (or_cases (not (eqb a x)) (eqb b y && eqb m 0) (and_r (may a b m) (not (eqb a x) || eqb b y && eqb m 0) e))

  takes_here : may x y 0 ≡ true → takes x y may x y 0 ≡ true
  unfolding takes
  takes_here e = and_intro e (or_r (not (eqb x x)) (and_intro (eq-eqb y y refl) (eq-eqb 0 0 refl)))

  takes_else : (a b m : ℕ) → (a ≡ x → ⊥) → may a b m ≡ true → takes x y may a b m ≡ true
  unfolding takes
  takes_else a b m ne e = and_intro e (or_l (eqb b y && eqb m 0) (ap not (ne_eqb a x ne)))

  -- ---- the theorem

  pub takes_gives : x < n → has s x ≡ true → choice n s p (takes x y may) ≡ true
      → (may x y 0 ≡ true) × AllMarked n s p may
      × (R : Representatives (CanTake n s p may) p) × ((c : ℕ) → c < p → R.of c ≡ x → ⊥)
  takes_gives l i e =
      let r = choice_gives n s p (takes x y may) e in
      let R = r.1 in (
        bare (r.0 x l i),
        λ a la ia. marked a (r.0 a la ia),
        record { of = R.of; can = λ c lc. can c (R.of c) (R.can c lc); apart = R.apart },
        λ c lc. not_x c (R.of c) (R.can c lc),
      )
    where
      bare : HasMark (takes x y may) x → may x y 0 ≡ true
      bare f =
          let b = any_elim n (λ b. any (suc p) (takes x y may x b)) f in
          let m = any_elim (suc p) (takes x y may x b.0) b.2 in
          let q = takes_only x b.0 m.0 m.2 refl in
          ap₂ (may x) (sym q.0) (sym q.1) ∙ takes_may x b.0 m.0 m.2

      marked : (a : ℕ) → HasMark (takes x y may) a → HasMark may a
      marked a f =
          let b = any_elim n (λ b. any (suc p) (takes x y may a b)) f in
          let m = any_elim (suc p) (takes x y may a b.0) b.2 in
          any_intro n (λ b. any (suc p) (may a b)) b.0 b.1
          (any_intro (suc p) (may a b.0) m.0 m.1 (takes_may a b.0 m.0 m.2))

      can : (c a : ℕ) → CanTake n s p (takes x y may) c a → CanTake n s p may c a
      can c a (la, ia, f) =
          let b = any_elim n (λ b. takes x y may a b (suc c)) f in
          (la, ia, any_intro n (λ b. may a b (suc c)) b.0 b.1 (takes_may a b.0 (suc c) b.2))

      not_x : (c a : ℕ) → CanTake n s p (takes x y may) c a → a ≡ x → ⊥
      not_x c a (la, ia, f) q =
          let b = any_elim n (λ b. takes x y may a b (suc c)) f in
          let z : suc c ≡ 0 = (takes_only a b.0 (suc c) b.2 q).1 in
          omega arith

  pub takes_found : y < n → may x y 0 ≡ true → AllMarked n s p may
      → (R : Representatives (CanTake n s p may) p) → ((c : ℕ) → c < p → R.of c ≡ x → ⊥) → choice n s p (takes x y may) ≡ true
  takes_found l e M R out =
      choice_found n s p (takes x y may)
      (λ a la ia. ⊎_elim
      (λ q. subst (HasMark (takes x y may)) (sym (eqb-true a x q)) here)
      (λ q. other a (eqb-false a x q) (M a la ia))
      (cases (eqb a x)))
      (record { of = R.of; can = λ c lc. can c (R.of c) (out c lc) (R.can c lc); apart = R.apart })
    where
      here : HasMark (takes x y may) x
      here =
          any_intro n (λ b. any (suc p) (takes x y may x b)) y l
          (any_intro (suc p) (takes x y may x y) 0 (zero-lt-suc p) (takes_here e))

      other : (a : ℕ) → (a ≡ x → ⊥) → HasMark may a → HasMark (takes x y may) a
      other a ne f =
          let b = any_elim n (λ b. any (suc p) (may a b)) f in
          let m = any_elim (suc p) (may a b.0) b.2 in
          any_intro n (λ b. any (suc p) (takes x y may a b)) b.0 b.1
          (any_intro (suc p) (takes x y may a b.0) m.0 m.1 (takes_else a b.0 m.0 ne m.2))

      can : (c a : ℕ) → (a ≡ x → ⊥) → CanTake n s p may c a → CanTake n s p (takes x y may) c a
      can c a ne (la, ia, f) =
          let b = any_elim n (λ b. may a b (suc c)) f in
          (la, ia, any_intro n (λ b. takes x y may a b (suc c)) b.0 b.1 (takes_else a b.0 (suc c) ne b.2))
