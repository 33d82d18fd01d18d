-- The choice theorem: there is a choice exactly where every station has a mark and the components have distinct representatives among the stations
-- that can take them. Stated for any relation, so it holds of out-choices and of in-choices. Assumes nothing.
use mathlib.Core.Path.{◌≡◌, refl, sym, ap, ◌∙◌, subst}
use mathlib.Core.Bool.{Bool, true, false, cond, ◌&&◌}
use Prim.Native.Nat.{ℕ, zero, suc, ◌≤◌, ◌<◌, suc-le-suc}
use native.Mathlib.Nat.{le_of_suc-le-suc, not-suc-le-zero}
use native.Mathlib.Omega.{arith}
use lib.Dec.{eqb}
use borrow.Author.Tests.{eq-eqb, eqb-true}
use Rattle.bitset.specs.Sets.{has, any, first}
use Rattle.bitset.proofs.BoolLaws.{and_intro, and_l, and_r}
use Rattle.bitset.proofs.QuantLaws.{any_intro, any_elim}
use Rattle.bitset.proofs.FirstLaws.{first_at}
use Rattle.separator.specs.Level.{choice}
use Rattle.separator.specs.Representatives.{Representatives, AllMarked, CanTake}
use Rattle.separator.proofs.ChooseLaws.{Found, needed, needed_in, needed_low, choice_chosen, chosen_choice}

first_any : (m : ℕ) (p : ℕ → Bool) → any m p ≡ true → (first m p < m) × (p (first m p) ≡ true)
first_any m p e = let k = any_elim m p e in first_at m p k.0 k.1 k.2

module _ (n s p : ℕ) (may : ℕ → ℕ → ℕ → Bool) where
  abbrev Given : Type 0
  Given = Found n n s p may (needed p)

  -- ---- a choice has marks and representatives

  chosen_marked : Given → AllMarked n s p may
  chosen_marked C x l e =
      let r = C.stands x l e in
      any_intro n (λ y. any (suc p) (may x y)) (C.other x) r.0
      (any_intro (suc p) (may x (C.other x)) (C.mark x) (suc-le-suc r.1) r.2)

  chosen_apart : Given → Representatives (CanTake n s p may) p
  chosen_apart C =
      record {
        of = of;
        can = λ c l.
            let r = taker c l in
            let f = C.stands (of c) r.0 r.1 in
            (r.0, r.1, any_intro n (λ y. may (of c) y (suc c)) (C.other (of c)) f.0 (ap (may (of c) (C.other (of c))) (sym r.2) ∙ f.2));
        apart = λ b c lb lc e. let q : suc b ≡ suc c = sym (taker b lb).2 ∙ ap C.mark e ∙ (taker c lc).2 in omega arith;
      }
    where
      takes : ℕ → ℕ → Bool
      takes c x = has s x && eqb (C.mark x) (suc c)

      of : ℕ → ℕ
      of c = first n (takes c)

      taker : (c : ℕ) → c < p → (of c < n) × (has s (of c) ≡ true) × (C.mark (of c) ≡ suc c)
      taker c l =
          let u = C.used (suc c) (needed_in p c l) in
          let r = first_at n (takes c) u.0 u.1 (and_intro u.2 (eq-eqb (C.mark u.0) (suc c) u.3)) in
          let x : ℕ = of c in
          let its : Bool = eqb (C.mark x) (suc c) in
          (r.0, and_l (has s x) its r.1, eqb-true (C.mark x) (suc c) (and_r (has s x) its r.1))

  -- ---- marks and representatives make a choice: a representative takes its component, any other station the first mark that it has

  apart_chosen : AllMarked n s p may → Representatives (CanTake n s p may) p → Given
  apart_chosen M R =
      record {
        other = λ x. other x (taken x);
        mark = λ x. mark x (taken x);
        stands = λ x l e. stands x l e (taken x) refl;
        used = used;
      }
    where
      represents : ℕ → ℕ → Bool
      represents x c = eqb (R.of c) x

      taken : ℕ → Bool
      taken x = any p (represents x)

      component : ℕ → ℕ
      component x = first p (represents x)

      partner : ℕ → ℕ
      partner x = first n (λ y. any (suc p) (may x y))

      other : ℕ → Bool → ℕ
      other x b = cond b (first n (λ y. may x y (suc (component x)))) (partner x)

      mark : ℕ → Bool → ℕ
      mark x b = cond b (suc (component x)) (first (suc p) (may x (partner x)))

      stands : (x : ℕ) → x < n → has s x ≡ true → (b : Bool) → taken x ≡ b
          → (other x b < n) × (mark x b ≤ p) × (may x (other x b) (mark x b) ≡ true)
      stands x l e true t =
          let c = first_any p (represents x) t in
          let can : CanTake n s p may (component x) x = subst (CanTake n s p may (component x)) (eqb-true (R.of (component x)) x c.1) (R.can (component x) c.0) in
          let y = first_any n (λ y. may x y (suc (component x))) can.2 in
          (y.0, c.0, y.1)
      stands x l e false t =
          let y = first_any n (λ y. any (suc p) (may x y)) (M x l e) in
          let m = first_any (suc p) (may x (partner x)) y.1 in
          (y.0, le_of_suc-le-suc m.0, m.1)

      used : (m : ℕ) → has (needed p) m ≡ true → (x : ℕ) × (x < n) × (has s x ≡ true) × (mark x (taken x) ≡ m)
      used zero e = absurd (not-suc-le-zero (needed_low p 0 e).1)
      used (suc c) e =
          let l : c < p = le_of_suc-le-suc (needed_low p (suc c) e).0 in
          let x = R.of c in
          let can = R.can c l in
          let t : taken x ≡ true = any_intro p (represents x) c l (eq-eqb x x refl) in
          let b = first_any p (represents x) t in
          (x, can.0, can.1, ap (mark x) t ∙ ap suc (R.apart (component x) c b.0 l (eqb-true (R.of (component x)) x b.1)))

  -- the theorem
  pub choice_gives : choice n s p may ≡ true → AllMarked n s p may × Representatives (CanTake n s p may) p
  choice_gives e = let C = choice_chosen n s p may e in (chosen_marked C, chosen_apart C)

  pub choice_found : AllMarked n s p may → Representatives (CanTake n s p may) p → choice n s p may ≡ true
  choice_found M R = chosen_choice n s p may (apart_chosen M R)
