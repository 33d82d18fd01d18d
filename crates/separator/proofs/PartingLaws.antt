-- Each level between the first and the last parts the stations: the levels before it are on one side, and the next one is on the other. Assumes nothing.
use mathlib.Core.Path.{◌≡◌, sym, subst}
use mathlib.Core.Logic.{⊎_elim}
use mathlib.Core.Bool.{true, false}
use mathlib.Core.List.{List, [], ◌∷◌}
use Prim.Native.Nat.{ℕ, zero, suc, ◌^◌, ◌<◌}
use native.Mathlib.Omega.{arith}
use lib.Bits.{bit_or}
use lib.Pow.{pow-lt, pow_pos}
use borrow.Author.Tests.{ne_eqb}
use Rattle.bitset.specs.Sets.{has, minus}
use Rattle.bitset.specs.Upto.{Each}
use Rattle.bitset.proofs.BoolLaws.{not_both, is_false}
use Rattle.bitset.proofs.QuantLaws.{below?}
use Rattle.bitset.proofs.HasLaws.{member_below}
use Rattle.bitset.proofs.SetLaws.{has_set_of, minus_intro, minus_elim, some_member}
use Rattle.separator.specs.Levels.{neighbourhood, levels_from, levels, front, inner}
use Rattle.separator.specs.Separates.{Separates}
use Rattle.separator.proofs.ReachLaws.{next_level, next_below, next_new, from_more, from_none, Reaching, seed_seen, reaching_start, reaching_turn}

-- a set that is not empty has a station
some_station : (n w : ℕ) → w < 2 ^ n → 0 < w → (k : ℕ) × (k < n) × (has w k ≡ true)
some_station n w h p = some_member n w (λ k. member_below n w k h) (ne_eqb w 0 (λ z. omega arith))

front_cons : (P : ℕ → Type 0) (a : ℕ) (l : List ℕ) → P a → Each P (front l) → Each P (front (a ∷ l))
unfolding front
front_cons P a [] p h = tt
front_cons P a (b ∷ l) p h = (p, h)

module _ (n : ℕ) (t : List ℕ) (seed : ℕ) (low : seed < n) where
  -- a level after the first, with another after it
  parts : (seen last : ℕ) → Reaching n t seed seen last → has last seed ≡ false → 0 < last → 0 < next_level n t seen last → Separates n t last
  parts seen last g z p q =
      let (b, lb, eb) = some_station n (next_level n t seen last) (next_below n t seen last) q in
      let far = (minus_elim n (neighbourhood n t last) seen b eb).2 in
      record {
        some = some_station n last g.small p;
        side = minus n seen last;
        here = (seed, low, z, minus_intro n seen last seed low (seed_seen n t seed low g) z);
        there = (b, lb, is_false (has last b) (λ e. not_both (g.part b e) far), is_false (has (minus n seen last) b) (λ e. not_both (minus_elim n seen last b e).1 far));
        wall = λ a c la lc out e f.
            let m = minus_elim n seen last a f in
            minus_intro n seen last c lc (g.settled a c la lc e (has_set_of n (λ _. true) c lc) m.1 m.2) out;
      }

  abbrev Parting : List ℕ → Type 0
  Parting ls = Each (Separates n t) ls

  front_parts : (f seen last : ℕ) → Reaching n t seed seen last → has last seed ≡ false → Parting (front (levels_from f n t seen last))
  unfolding front
  front_parts zero seen last g z = unfold levels_from in tt
  front_parts (suc f) seen last g z =
      go (front_parts f (bit_or seen next) next (reaching_turn n t seed low seen last g) (next_new n t seen last seed (seed_seen n t seed low g)))
    where
      next : ℕ
      next = next_level n t seen last

      later : List ℕ
      later = levels_from f n t (bit_or seen next) next

      go : Parting (front later) → Parting (front (levels_from (suc f) n t seen last))
      go more =
          ⊎_elim
          (λ p. subst (λ ls. Parting (front ls)) (sym (from_more f n t seen last g.below p))
          (⊎_elim
          (λ q. front_cons (Separates n t) last later (parts seen last g z p q) more)
          (λ q. subst (λ ls. Parting (front (last ∷ ls))) (sym (from_none f n t (bit_or seen next) next (omega arith))) tt)
          (below? 0 next)))
          (λ p. subst (λ ls. Parting (front ls)) (sym (from_none (suc f) n t seen last (omega arith))) tt)
          (below? 0 last)

  inner_from_lem : (f : ℕ) → Parting (inner (levels_from f n t (2 ^ seed) (2 ^ seed)))
  unfolding inner
  inner_from_lem zero = unfold levels_from in tt
  inner_from_lem (suc f) =
      let first : ℕ = 2 ^ seed in
      let g = reaching_start n t seed low in
      subst (λ ls. Parting (inner ls)) (sym (from_more f n t first first (pow-lt low) (pow_pos seed)))
      (front_parts f (bit_or first (next_level n t first first)) (next_level n t first first) (reaching_turn n t seed low first first g) (next_new n t first first seed (seed_seen n t seed low g)))

  -- levels 1 to m - 1
  pub inner_parts : Parting (inner (levels n t seed))
  unfolding levels
  inner_parts = inner_from_lem n
