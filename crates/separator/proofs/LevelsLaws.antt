-- Levels found one after the other, as the code finds them. Assumes nothing.
use mathlib.Core.Path.{◌≡◌, sym, ap, ◌∙◌, subst}
use mathlib.Core.Bool.{not}
use mathlib.Core.List.{List, []}
use Prim.Native.Nat.{ℕ, zero, suc, ◌+◌, ◌-◌, ◌^◌, ◌≤◌, ◌<◌, zero-le, suc-le-suc}
use native.Mathlib.Nat.{sub-zero}
use native.Mathlib.Omega.{arith}
use lib.Bits.{bit_or}
use lib.Dec.{eqb}
use lib.ListN.{length, take, set, replicate}
use lib.Pow.{pow-lt}
use Rattle.bitset.specs.Sets.{has, set_of}
use Rattle.bitset.proofs.BoolLaws.{cond_elim}
use Rattle.circuit.specs.Legs.{neighbours}
use Rattle.separator.specs.Levels.{levels_from, levels, unreached}
use Rattle.separator.specs.inner.Reach.{Listed}
use Rattle.separator.proofs.ArrayLaws.{Writing, writing_start, writing_turn, writing_end, listed_take}
use Rattle.separator.proofs.GrowLaws.{growing_end}
use Rattle.separator.proofs.ReachLaws.{all_stations, next_level, from_more, from_none, Reaching, reaching_start, reaching_turn, unreached_grown}

-- there are at most n levels
from_most : (f n : ℕ) (t : List ℕ) (seen last : ℕ) → length (levels_from f n t seen last) ≤ f
unfolding levels_from
from_most zero n t seen last = zero-le
from_most (suc f) n t seen last =
    cond_elim (λ (ls : List ℕ). length ls ≤ suc f) (eqb last 0) [] _ (λ _. zero-le) (λ _. suc-le-suc (from_most f n t _ _))

levels_most : (n : ℕ) (t : List ℕ) (seed : ℕ) → length (levels n t seed) ≤ n
unfolding levels
levels_most n t seed = from_most n n t (2 ^ seed) (2 ^ seed)

-- so the array has them all
pub levels_taken : (n : ℕ) (t : List ℕ) (seed : ℕ) {level : List ℕ} {count : ℕ} → n ≤ 64 → Listed (levels n t seed) level count
    → (count ≤ 64) × (take count level ≡ levels n t seed)
levels_taken n t seed top L = let few = levels_most n t seed in (omega (arith, L.many), listed_take L (omega arith))

-- `count` levels are found, `last` is the next, and `seen` has the stations of all these
pub record Finding (n : ℕ) (t : List ℕ) (seed : ℕ) (level : List ℕ) (count seen last : ℕ) : Type 0 where
  pub reaching : Reaching n t seed seen last
  pub written : Writing (levels n t seed) level count (levels_from (n - count) n t seen last)

module _ (n : ℕ) (t : List ℕ) (seed : ℕ) (low : seed < n) where
  pub finding_start : Finding n t seed (replicate 64 0) 0 (2 ^ seed) (2 ^ seed)
  unfolding levels
  finding_start =
      record {
        reaching = reaching_start n t seed low;
        written =
            subst (λ (f : ℕ). Writing (levels n t seed) (replicate 64 0) 0 (levels_from f n t (2 ^ seed) (2 ^ seed))) (sym (sub-zero n))
            (writing_start (levels n t seed));
      }

  module _ {level : List ℕ} {count seen last : ℕ} (g : Finding n t seed level count seen last) where
    pub finding_turn : (next : ℕ) → 0 < last → count < n → n ≤ 64 → next ≡ next_level n t seen last
        → Finding n t seed (set level count last) (count + 1) (bit_or seen next) next
    finding_turn next p l top e = rw e (
        record {
          reaching = reaching_turn n t seed low seen last g.reaching;
          written = writing_turn g.written last _ (omega arith) (ap (λ (k : ℕ). levels_from k n t seen last) fuel ∙ from_more _ n t seen last g.reaching.below p);
        })
      where
        fuel : n - count ≡ suc (n - (count + 1))
        fuel = omega (arith, l)

    pub finding_end : last ≡ 0 → count ≤ 64 → Listed (levels n t seed) level count
    finding_end z h = writing_end g.written h (from_none (n - count) n t seen last z)

    -- the stations that are not seen
    pub finding_missed : last ≡ 0 → set_of n (λ k. not (has seen k)) ≡ unreached n (levels n t seed)
    finding_missed z =
        ap (λ (w : ℕ). set_of n (λ k. not (has w k))) (growing_end n (neighbours t) (all_stations n) g.reaching (pow-lt low) z) ∙ sym (unreached_grown n t seed low)
