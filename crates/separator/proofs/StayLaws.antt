-- A table that differs from another only inside its levels has the same levels: each is found by the legs between the one before and the stations
-- that are not seen. So the levels stay while a pass strikes legs inside them. Assumes nothing.
use mathlib.Core.Path.{◌≡◌, refl, sym, ap, ap₂, ◌∙◌}
use mathlib.Core.Bool.{Bool, true, false, not, cond, ◌&&◌, ◌||◌}
use mathlib.Core.List.{List, [], ◌∷◌}
use Prim.Native.Nat.{ℕ, zero, suc, ◌^◌, ◌≤◌, ◌<◌}
use lib.Dec.{eqb}
use Rattle.bitset.specs.Sets.{has, minus, join}
use Rattle.bitset.specs.Upto.{Each}
use Rattle.bitset.specs.inner.Members.{Within}
use Rattle.bitset.proofs.BoolLaws.{iff, is_false, not_both, and_l, and_r, or_l, or_r, or_false_l, cond_elim, taut2}
use Rattle.bitset.proofs.QuantLaws.{any_ext}
use Rattle.bitset.proofs.SetLaws.{has_set_of, set_of_ext, has_join}
use Rattle.circuit.specs.Legs.{leg, without, neighbours}
use Rattle.circuit.specs.Verdict.{says_none, leaves}
use Rattle.circuit.specs.declared.verdict.Verdict.{Verdict}
use Rattle.circuit.proofs.LegsLaws.{without_sub, without_stays}
use Rattle.separator.specs.Level.{marking, passable, struck, level}
use Rattle.separator.specs.Levels.{neighbourhood, levels_from, levels, front, inner}
use Rattle.separator.proofs.NeighbourLaws.{leads}
use Rattle.separator.proofs.ReachLaws.{next_level, next_new}

-- no level of the list has both stations
abbrev pub Apart : ℕ → ℕ → List ℕ → Type 0
Apart a b ls = Each (λ (l : ℕ). has l a && has l b ≡ false) ls

-- any two stations of s are in one level of the list
abbrev pub Inside : List ℕ → ℕ → Type 0
Inside ls s = (a b : ℕ) → Apart a b ls → has s a && has s b ≡ false

-- as each inner level is
front_inside : (ks ls : List ℕ) → ((a b : ℕ) → Apart a b ks → Apart a b ls) → Each (Inside ks) (front ls)
unfolding front
front_inside ks [] h = tt
front_inside ks (l ∷ []) h = tt
front_inside ks (l ∷ k ∷ ls) h = (λ a b p. (h a b p).0, front_inside ks (k ∷ ls) (λ a b p. (h a b p).1))

pub inner_inside : (ls : List ℕ) → Each (Inside ls) (inner ls)
unfolding inner
inner_inside [] = tt
inner_inside (l ∷ ls) = front_inside (l ∷ ls) ls (λ a b p. p.1)

-- tests that need to agree only where another passes, or does not
and_same : (g x y : Bool) → (g ≡ true → x ≡ y) → g && x ≡ g && y
and_same true x y h = h refl
and_same false x y h = refl

less_same : (g x y : Bool) → (g ≡ false → x ≡ y) → x && not g ≡ y && not g
less_same true x y h = taut2 (λ x y. x && false) (λ x y. y && false) refl x y
less_same false x y h = ap (λ (b : Bool). b && true) (h refl)

module _ (n : ℕ) (t : List ℕ) where
  -- the levels after `last`
  abbrev after : ℕ → ℕ → ℕ → List ℕ
  after f seen last = levels_from f n t (join n seen (next_level n t seen last)) (next_level n t seen last)

  -- have no station that is seen
  after_apart : (f seen last a b : ℕ) → a < n → has seen a ≡ true → Apart a b (after f seen last)
  unfolding levels_from
  after_apart zero seen last a b la e = tt
  after_apart (suc f) seen last a b la e =
      let next : ℕ = next_level n t seen last in
      cond_elim (Apart a b) (eqb next 0) [] (next ∷ after f (join n seen next) next) (λ _. tt)
      (λ _. (ap (λ (x : Bool). x && has next b) (next_new n t seen last a e), after_apart f (join n seen next) next a b la (has_join n seen next a la ∙ or_l (has next a) e)))

  module _ (u : List ℕ) where
    -- the next level is that of t, where `last` has the same neighbours among the stations that are not seen
    next_same : (seen last : ℕ) → ((a b : ℕ) → a < n → b < n → has last a ≡ true → has seen b ≡ false → neighbours u a b ≡ neighbours t a b)
        → next_level n u seen last ≡ next_level n t seen last
    unfolding minus neighbourhood
    next_same seen last same =
        set_of_ext n _ _ (λ b lb. less_same (has seen b) _ _ (λ new.
        has_set_of n (leads n (neighbours u) last) b lb
        ∙ any_ext n _ _ (λ a la. and_same (has last a) (neighbours u a b) (neighbours t a b) (λ p. same a b la lb p new))
        ∙ sym (has_set_of n (leads n (neighbours t) last) b lb)))

    -- u has the neighbours of t among the stations that are not seen, but inside levels of the list
    abbrev Agree : ℕ → List ℕ → Type 0
    Agree seen ls = (a b : ℕ) → a < n → b < n → has seen b ≡ false → Apart a b ls → neighbours u a b ≡ neighbours t a b

    from_stay : (f seen last : ℕ) → Within n last seen → Agree seen (levels_from f n t seen last)
        → levels_from f n u seen last ≡ levels_from f n t seen last
    unfolding levels_from
    from_stay zero seen last part same = refl
    from_stay (suc f) seen last part same =
        ap (λ (ls : List ℕ). cond (eqb last 0) [] (last ∷ ls))
        (ap (λ (k : ℕ). levels_from f n u (join n seen k) k)
        (next_same seen last (λ a b la lb p new. rest a b la lb new (after_apart f seen last a b la (part a la p))))
        ∙ from_stay f (join n seen next) next (λ k l e. has_join n seen next k l ∙ or_r (has seen k) e)
        (λ a b la lb new. rest a b la lb (or_false_l (has seen b) (has next b) (sym (has_join n seen next b lb) ∙ new))))
      where
        next : ℕ
        next = next_level n t seen last

        rest : Agree seen (after f seen last)
        rest a b la lb new h = same a b la lb new (cond_elim (Apart a b) (eqb last 0) [] (last ∷ after f seen last) (λ _. tt)
            (λ _. (is_false (has last a && has last b) (λ e. not_both (part b lb (and_r (has last a) (has last b) e)) new), h)))

    -- u has the neighbours of t, but inside levels of t
    pub levels_stay : (seed : ℕ) → ((a b : ℕ) → a < n → b < n → Apart a b (levels n t seed) → neighbours u a b ≡ neighbours t a b)
        → levels n u seed ≡ levels n t seed
    unfolding levels
    levels_stay seed same = from_stay n (2 ^ seed) (2 ^ seed) (λ k l e. e) (λ a b la lb _. same a b la lb)

  -- the rule of a level strikes legs inside it only
  pub level_levels : (s seed : ℕ) → n ≤ 64 → Inside (levels n t seed) s → levels n (level n t s).left seed ≡ levels n t seed
  unfolding level struck neighbours
  level_levels s seed le inside =
      cond_elim (λ (v : Verdict). levels n v.left seed ≡ levels n t seed) (passable n s (marking n t s)) (leaves (without n t g)) (says_none t)
      (λ _. levels_stay (without n t g) seed (λ a b la lb p.
      ap₂ (λ (x y : Bool). x || y) (same a b la lb (inside a b p))
      (same b a lb la (taut2 (λ x y. x && y) (λ x y. y && x) refl (has s b) (has s a) ∙ inside a b p))))
      (λ _. refl)
    where
      g : ℕ → ℕ → Bool
      g = struck n s (marking n t s)

      same : (a b : ℕ) → a < n → b < n → has s a && has s b ≡ false → leg (without n t g) a b ≡ leg t a b
      same a b la lb q =
          iff (leg (without n t g) a b) (leg t a b) (without_sub n t g a b)
          (λ e. without_stays n t g a b le la lb e (is_false (g a b) (λ h. not_both (and_l (has s a && has s b) _ h) q)))
