-- The levels of a seed grow as a component does that keeps to no room. So the stations in some level are exactly those that a path of neighbours joins to the
-- seed, and where a round stands these are all stations. Assumes nothing.
use mathlib.Core.Path.{◌≡◌, refl, sym, ap, ◌∙◌, subst}
use mathlib.Core.Logic.{◌↔◌, ⊎_elim}
use mathlib.Core.Bool.{Bool, true, false, not, ◌&&◌, ◌||◌}
use mathlib.Core.List.{List, [], ◌∷◌}
use Prim.Native.Nat.{ℕ, zero, suc, ◌+◌, ◌^◌, ◌≤◌, ◌<◌}
use native.Mathlib.Omega.{arith}
use lib.Bits.{bit_or}
use lib.Count.{ones, ones-le}
use lib.Pow.{pow-lt}
use borrow.Author.Tests.{eq-eqb, ne_eqb}
use Rattle.bitset.specs.Sets.{has, set_of, minus, join}
use Rattle.bitset.proofs.BoolLaws.{clash, not_both, is_false, cases, taut1, cond_true, cond_false}
use Rattle.bitset.proofs.QuantLaws.{below?}
use Rattle.bitset.proofs.HasLaws.{has_zero, has_or}
use Rattle.bitset.proofs.SetLaws.{set_of_lt, has_set_of, set_of_elim, set_of_ext, has_self, or_set_of, minus_elim, none_zero}
use Rattle.bitset.proofs.OnesLaws.{ones_pos, ones_join}
use Rattle.bitset.proofs.MachineLaws.{minus_of}
use Rattle.circuit.specs.Legs.{neighbours}
use Rattle.circuit.specs.Round.{RoundOf, iter}
use Rattle.circuit.proofs.LegsLaws.{neighbours_leg}
use Rattle.circuit.proofs.Turn.{iter_stays, all_from}
use Rattle.separator.specs.Choice.{stay, step}
use Rattle.separator.specs.Components.{grow}
use Rattle.separator.specs.Connected.{Free, Joined}
use Rattle.separator.specs.Levels.{neighbourhood, levels_from, levels, reached, unreached}
use Rattle.separator.proofs.GrowLaws.{Growing, growing_start, growing_turn, growing_end}
use Rattle.separator.proofs.NeighbourLaws.{leads, neighbourhood_lt}
use Rattle.separator.proofs.WalkLaws.{grown_from, walked_grown}

-- ---- one level after the other

-- all n stations, as a room to grow in
abbrev pub all_stations : ℕ → ℕ
all_stations n = set_of n (λ _. true)

-- the level after `last`
abbrev pub next_level : ℕ → List ℕ → ℕ → ℕ → ℕ
next_level n t seen last = minus n (neighbourhood n t last) seen

-- has stations below n only, and none that is seen
pub next_below : (n : ℕ) (t : List ℕ) (seen last : ℕ) → next_level n t seen last < 2 ^ n
unfolding minus
next_below n t seen last = set_of_lt n _

pub next_new : (n : ℕ) (t : List ℕ) (seen last k : ℕ) → has seen k ≡ true → has (next_level n t seen last) k ≡ false
next_new n t seen last k e = is_false (has (next_level n t seen last) k) (λ f. not_both e (minus_elim n (neighbourhood n t last) seen k f).2)

pub from_more : (f n : ℕ) (t : List ℕ) (seen last : ℕ) → seen < 2 ^ n → 0 < last
    → levels_from (suc f) n t seen last ≡ last ∷ levels_from f n t (bit_or seen (next_level n t seen last)) (next_level n t seen last)
unfolding levels_from join
from_more f n t seen last h p =
    let next : ℕ = next_level n t seen last in
    cond_false [] _ (ne_eqb last 0 (λ z. omega arith))
    ∙ ap (λ (s : ℕ). last ∷ levels_from f n t s next) (sym (or_set_of n seen next h (next_below n t seen last)))

pub from_none : (f n : ℕ) (t : List ℕ) (seen last : ℕ) → last ≡ 0 → levels_from f n t seen last ≡ []
unfolding levels_from
from_none zero n t seen last z = refl
from_none (suc f) n t seen last z = cond_true [] _ (eq-eqb last 0 z)

-- no station is in two levels
next_ones : (n : ℕ) (t : List ℕ) (seen last : ℕ) → seen < 2 ^ n → ones (bit_or seen (next_level n t seen last)) ≡ ones seen + ones (next_level n t seen last)
next_ones n t seen last h =
    subst (λ (w : ℕ). ones (bit_or seen w) ≡ ones seen + ones w) (minus_of (omega arith) (neighbourhood n t last) seen (neighbourhood_lt n t last) h)
    (ones_join n seen (neighbourhood n t last) h)

-- `seen` has the stations of the levels up to `last`
abbrev pub Reaching : ℕ → List ℕ → ℕ → ℕ → ℕ → Type 0
Reaching n t seed seen last = Growing n (neighbours t) (all_stations n) (2 ^ seed) seen last

module _ (n : ℕ) (t : List ℕ) (seed : ℕ) (low : seed < n) where
  -- the seed is seen
  pub seed_seen : {seen last : ℕ} → Reaching n t seed seen last → has seen seed ≡ true
  seed_seen g = g.holds seed low (has_self seed)

  pub reaching_start : Reaching n t seed (2 ^ seed) (2 ^ seed)
  reaching_start = growing_start n (neighbours t) (all_stations n) (2 ^ seed) (pow-lt low)

  -- the next level is what comes in next
  pub reaching_turn : (seen last : ℕ) → Reaching n t seed seen last → Reaching n t seed (bit_or seen (next_level n t seen last)) (next_level n t seen last)
  unfolding minus neighbourhood
  reaching_turn seen last g = growing_turn n (neighbours t) (all_stations n) g (next_level n t seen last) (next_below n t seen last) fresh
    where
      fresh : (k : ℕ) → k < n → has (next_level n t seen last) k ≡ leads n (neighbours t) last k && has (all_stations n) k && not (has seen k)
      fresh k l =
          has_set_of n (λ j. has (neighbourhood n t last) j && not (has seen j)) k l
          ∙ ap (λ (b : Bool). b && not (has seen k))
          (has_set_of n (leads n (neighbours t) last) k l
          ∙ sym (ap (λ (b : Bool). leads n (neighbours t) last k && b) (has_set_of n (λ _. true) k l) ∙ taut1 (λ b. b && true) (λ b. b) refl (leads n (neighbours t) last k)))

  -- ---- the stations in some level

  -- what the seed leads to
  abbrev pub grown : ℕ
  grown = grow n n (neighbours t) (all_stations n) (2 ^ seed)

  -- the stations seen before `last`, and those of the levels from there on, f at most, are what the seed leads to
  abbrev AllFound : ℕ → ℕ → ℕ → ℕ → Type 0
  AllFound f seen last k = has seen k && not (has last k) || reached (levels_from f n t seen last) k ≡ has grown k

  -- no level is left
  found_end : (f seen last : ℕ) → Reaching n t seed seen last → last ≡ 0 → (k : ℕ) → AllFound f seen last k
  unfolding reached
  found_end f seen last g z k =
      ap (λ (ls : List ℕ). has seen k && not (has last k) || reached ls k) (from_none f n t seen last z)
      ∙ ap (λ (b : Bool). has seen k && not b || false) (ap (λ (w : ℕ). has w k) z ∙ has_zero k)
      ∙ taut1 (λ b. b && true || false) (λ b. b) refl (has seen k)
      ∙ ap (λ (w : ℕ). has w k) (growing_end n (neighbours t) (all_stations n) g (pow-lt low) z)

  -- of a station: seen, in the last level, in the next, in a later one
  turn_bits : (a b c r : Bool) → (b ≡ true → a ≡ true) → (c ≡ true → a ≡ false) → a && not b || (b || r) ≡ (a || c) && not c || r
  turn_bits true b true r p q = clash (q refl)
  turn_bits true true false r p q = refl
  turn_bits true false false r p q = refl
  turn_bits false true c r p q = clash (sym (p refl))
  turn_bits false false true r p q = refl
  turn_bits false false false r p q = refl

  found_turn : (f seen last : ℕ) → Reaching n t seed seen last → 0 < last → (k : ℕ)
      → AllFound f (bit_or seen (next_level n t seen last)) (next_level n t seen last) k → AllFound (suc f) seen last k
  unfolding reached
  found_turn f seen last g p k rest =
      let next : ℕ = next_level n t seen last in
      let later : Bool = reached (levels_from f n t (bit_or seen next) next) k in
      ap (λ (ls : List ℕ). has seen k && not (has last k) || reached ls k) (from_more f n t seen last g.below p)
      ∙ turn_bits (has seen k) (has last k) (has next k) later (g.part k) (λ e. (minus_elim n (neighbourhood n t last) seen k e).2)
      ∙ ap (λ (b : Bool). b && not (has next k) || later) (sym (has_or seen next k))
      ∙ rest

  -- each level has a station of its own, so that n levels are all
  all_found : (f seen last : ℕ) → Reaching n t seed seen last → n + ones last ≤ f + ones seen → (k : ℕ) → AllFound f seen last k
  all_found zero seen last g fuel k =
      ⊎_elim (λ p. absurd (let z : ⊥ = omega (arith, ones_pos last p, ones-le n seen g.below) in z)) (λ p. found_end zero seen last g (omega arith) k) (below? 0 last)
  all_found (suc f) seen last g fuel k =
      ⊎_elim
      (λ p. found_turn f seen last g p k
      (all_found f (bit_or seen (next_level n t seen last)) (next_level n t seen last) (reaching_turn seen last g)
      (omega (arith, fuel, next_ones n t seen last g.below, ones_pos last p)) k))
      (λ p. found_end (suc f) seen last g (omega arith) k) (below? 0 last)

  -- a station is in some level exactly where the seed leads to it
  pub levels_reached : (k : ℕ) → reached (levels n t seed) k ≡ has grown k
  unfolding levels
  levels_reached k =
      sym (ap (λ (b : Bool). b || reached (levels n t seed) k) (taut1 (λ b. b && not b) (λ _. false) refl (has (2 ^ seed) k)))
      ∙ all_found n (2 ^ seed) (2 ^ seed) reaching_start (omega arith) k

  -- so the others are unreached
  pub unreached_grown : unreached n (levels n t seed) ≡ set_of n (λ k. not (has grown k))
  unfolding unreached
  unreached_grown = set_of_ext n _ _ (λ k l. ap not (levels_reached k))

  -- ---- paths of neighbours

  -- A station is in some level exactly where a path of neighbours joins the seed to it; with nothing to stay outside of, any path will do.
  pub reached_joined : (k : ℕ) → (reached (levels n t seed) k ≡ true) ↔ Joined n t 0 seed k
  reached_joined k = (
    λ e. grown_from n (neighbours t) (all_stations n) (Free n 0) inside seed (low, has_zero seed) k (sym (levels_reached k) ∙ e),
    λ w. levels_reached k ∙ walked_grown n (neighbours t) (all_stations n) (Free n 0) only (2 ^ seed) seed k (has_self seed) w,
  )
    where
      inside : (i : ℕ) → has (all_stations n) i ≡ true → Free n 0 i
      inside i e = ((set_of_elim n (λ _. true) i e).0, has_zero i)

      only : (i : ℕ) → Free n 0 i → (i < n) × (has (all_stations n) i ≡ true)
      only i (l, _) = (l, has_set_of n (λ _. true) i l)

  -- where no station is unreached, every station is in some level
  pub all_reached : unreached n (levels n t seed) ≡ 0 → (k : ℕ) → k < n → reached (levels n t seed) k ≡ true
  unfolding unreached
  all_reached z k l =
      ⊎_elim (λ e. e) (λ f.
      absurd (not_both (has_set_of n (λ k. not (reached (levels n t seed) k)) k l ∙ ap not f) (ap (λ (w : ℕ). has w k) z ∙ has_zero k)))
      (cases (reached (levels n t seed) k))

  -- ---- rounds

  -- a round is a path from the seed to every station
  along : (h : ℕ → ℕ) → RoundOf n t h → (m : ℕ) → Joined n t 0 seed (iter h m seed)
  along h r zero = stay (low, has_zero seed)
  along h r (suc m) =
      let a : ℕ = iter h m seed in
      step (along h r m) (neighbours_leg t a (h a) (r.drives a (iter_stays r m seed low))) (iter_stays r (suc m) seed low, has_zero (h a))

  -- a table with a round reaches every station from every seed
  pub round_reaches : (h : ℕ → ℕ) → RoundOf n t h → unreached n (levels n t seed) ≡ 0
  unfolding unreached
  round_reaches h r =
      none_zero n (unreached n (levels n t seed)) (set_of_lt n _) (λ k l.
      let (m, _, e) = all_from r seed low k l in
      has_set_of n (λ k. not (reached (levels n t seed) k)) k l ∙ ap not ((reached_joined k).1 (subst (Joined n t 0 seed) e (along h r m))))
