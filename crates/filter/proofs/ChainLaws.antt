-- The chain step is sound: a round drives every compulsory leg, and it closes no loop before it has all stations. Assumes nothing.
use mathlib.Core.Path.{◌≡◌, refl, sym, ap, ◌∙◌, subst}
use mathlib.Core.Logic.{⊎_elim}
use mathlib.Core.Bool.{true, ◌&&◌, ◌||◌}
use mathlib.Core.List.{List}
use Prim.Native.Nat.{ℕ, zero, suc, ◌≤◌, ◌<◌}
use native.Mathlib.Omega.{arith}
use lib.Dec.{eqb, ltb}
use borrow.Author.Tests.{le-ltb}
use Rattle.bitset.specs.Sets.{size}
use Rattle.bitset.specs.Upto.{row}
use Rattle.bitset.proofs.BoolLaws.{not_both, is_false, and_r, or_cases, cond_elim}
use Rattle.bitset.proofs.QuantLaws.{any_elim}
use Rattle.bitset.proofs.SetLaws.{has_set_of}
use Rattle.bitset.proofs.OnesLaws.{size_one}
use Rattle.circuit.specs.Legs.{leg, col, without}
use Rattle.circuit.specs.Round.{iter, RoundOf, All}
use Rattle.circuit.specs.Verdict.{says_none, leaves, Sound}
use Rattle.circuit.proofs.SoundLaws.{sound_none, sound_without}
use Rattle.circuit.proofs.Turn.{back, home_back, back_home, back_stays, round_back, once_from}
use Rattle.filter.specs.Chain.{compulsories, forked, nexts, along, joined, looped, closes, chain}
use Rattle.filter.proofs.NextLaws.{joined_elim, next_leg}
use Rattle.filter.proofs.TrailLaws.{compulsory_holds}

module _ (n : ℕ) (t : List ℕ) (le : n ≤ 64) where
  abbrev m : List ℕ
  m = compulsories n t

  abbrev s : List ℕ
  s = nexts n m

  module _ (h : ℕ → ℕ) (r : RoundOf n t h) where
    -- the round drives each compulsory leg
    pub driven : (i j : ℕ) → leg m i j ≡ true → h i ≡ j
    driven i j e =
        let c = compulsory_holds n t le i j e in
        ⊎_elim
        (λ only. only (h i) (r.stays i c.from) (r.drives i c.from))
        (λ only. ap h (sym (only (back n h j) (back_stays r j c.to) ((round_back r).drives j c.to))) ∙ home_back r j c.to) c.only

    one_out : (i : ℕ) → i < n → size n (row m i) ≤ 1
    unfolding leg
    one_out i l = size_one n (row m i) (h i) (r.stays i l) (λ k lk e. sym (driven i k e))

    one_in : (j : ℕ) → j < n → size n (col n m j) ≤ 1
    unfolding col
    one_in j l =
        size_one n (col n m j) (back n h j) (back_stays r j l)
        (λ k lk e. sym (back_home r k lk) ∙ ap (back n h) (driven k j (sym (has_set_of n (λ i. leg m i j) k lk) ∙ e)))

    not_forked : forked n m ≡ true → ⊥
    unfolding forked
    not_forked e =
        let f = any_elim n (λ i. ltb 1 (size n (row m i)) || ltb 1 (size n (col n m i))) e in
        ⊎_elim (few (size n (row m f.0)) (one_out f.0 f.1)) (few (size n (col n m f.0)) (one_in f.0 f.1))
        (or_cases (ltb 1 (size n (row m f.0))) (ltb 1 (size n (col n m f.0))) f.2)
      where
        few : (k : ℕ) → k ≤ 1 → ltb 1 k ≡ true → ⊥
        few k l q = not_both q (le-ltb 1 k l)

    -- where the list of the next stations leads to a station, it leads along the round
    along_round : (k a : ℕ) → along n s k a < n → along n s k a ≡ iter h k a
    along_round zero a l = refl
    along_round (suc k) a l =
        let f = next_leg n m (along n s k a) l in
        sym (driven (along n s k a) (along n s (suc k) a) f.1) ∙ ap h (along_round k a f.0)

    joined_round : (f a b : ℕ) → b < n → joined n s f a b ≡ true → (k : ℕ) × (0 < k) × (k ≤ f) × (iter h k a ≡ b)
    joined_round f a b l e =
        let g = joined_elim n s f a b e in
        (g.0, g.1, g.2, sym (along_round g.0 a (subst (λ (x : ℕ). x < n) (sym g.3) l)) ∙ g.3)

    -- 1 to n - 1 steps of a round lead no station to itself
    no_loop : (k a : ℕ) → a < n → 0 < k → k < n → iter h k a ≡ a → ⊥
    no_loop k a l p lk e = let z : k ≡ 0 = once_from r a l k 0 lk (omega arith) e in omega arith

    not_looped : looped n s ≡ true → ⊥
    unfolding looped
    not_looped e =
        let f = any_elim n _ e in
        let g = joined_round _ f.0 f.0 f.1 f.2 in
        no_loop g.0 f.0 f.1 g.1 (omega (arith, f.1, g.2)) g.3

    not_closed : (i : ℕ) → i < n → closes n m s i (h i) ≡ true → ⊥
    unfolding closes
    not_closed i l e =
        let g = joined_round _ (h i) i l (and_r (eqb (col n m (h i)) 0 && eqb (row m i) 0) _ e) in
        no_loop (suc g.0) (h i) (r.stays i l) (omega arith) (omega (arith, g.1, g.2)) (ap h g.3)

  pub chain_sound : Sound All n t (chain n t)
  unfolding chain
  chain_sound =
      cond_elim (Sound All n t) (forked n m || looped n s) (says_none t) (leaves (without n t (closes n m s)))
      (λ e. sound_none n t (λ h r. ⊎_elim (not_forked h r) (not_looped h r) (or_cases (forked n m) (looped n s) e)))
      (λ _. sound_without n t (closes n m s) le (λ h r i l. is_false (closes n m s i (h i)) (not_closed h r i l)))
