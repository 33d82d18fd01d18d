-- The Petersen graph ends stable and has no round (W-212): by computation, and a search for a round that misses none. Assumes nothing.
use mathlib.Core.Path.{◌≡◌, refl, sym, ap, ◌∙◌}
use mathlib.Core.Logic.{⊎_elim}
use mathlib.Core.Bool.{Bool, true, false, not, ◌&&◌}
use mathlib.Core.List.{List}
use Prim.Native.Nat.{ℕ, zero, suc, pred, ◌+◌, ◌^◌, ◌≤◌, ◌<◌}
use native.Mathlib.Omega.{arith}
use lib.Bits.{bit_or}
use lib.Dec.{eqb}
use borrow.Author.Tests.{eqb-true}
use Rattle.bitset.specs.Sets.{has, any}
use Rattle.bitset.proofs.BoolLaws.{not_both, is_false, and_intro, or_cases}
use Rattle.bitset.proofs.MachineLaws.{has_insert}
use Rattle.bitset.proofs.QuantLaws.{any_intro}
use Rattle.bitset.proofs.SetLaws.{has_one}
use Rattle.circuit.specs.Legs.{leg}
use Rattle.circuit.specs.Round.{iter, RoundOf}
use Rattle.circuit.specs.State.{rows_of}
use Rattle.demands.specs.Definitions.{definitions}
use Rattle.demands.specs.Examples.{listed, begun}
use Rattle.demands.specs.Stable.{petersen, petersen_stable, NoPromise}

petersen_stable_lem : petersen_stable ≡ true
unfolding definitions listed begun petersen petersen_stable
petersen_stable_lem = refl

-- from i on, k stations that are not in `seen`, one after the other, and then station 0
goes_on : ℕ → List ℕ → ℕ → ℕ → ℕ → Bool
goes_on n t zero seen i = leg t i 0
goes_on n t (suc k) seen i =
    any n (λ j.
    let rest = goes_on n t k (bit_or seen (2 ^ j)) j in
    let free = not (has seen j) && rest in
    leg t i j && free)

-- a round goes on so from station 0
module _ (n : ℕ) (t : List ℕ) (h : ℕ → ℕ) (r : RoundOf n t h) (some : 0 < n) where
  -- the stations of `seen` are among the first m + 1 of the round
  Seen : ℕ → ℕ → Type 0
  Seen m seen = (j : ℕ) → has seen j ≡ true → (p : ℕ) × (p ≤ m) × (iter h p 0 ≡ j)

  station : (m : ℕ) → iter h m 0 < n
  station zero = some
  station (suc m) = r.stays (iter h m 0) (station m)

  on : (k m seen : ℕ) → suc m + k ≡ n → Seen m seen → goes_on n t k seen (iter h m 0) ≡ true
  unfolding goes_on Seen
  on zero m seen e S =
      let last : suc m ≡ n = omega (arith, e) in
      ap (leg t (iter h m 0)) (sym (ap (λ (x : ℕ). iter h x 0) last ∙ r.home)) ∙ r.drives (iter h m 0) (station m)
  on (suc k) m seen e S =
      let j = iter h (suc m) 0 in
      let free : has seen j ≡ false =
      is_false (has seen j) (λ q.
      let s = S j q in
      let again : s.0 ≡ suc m = r.once s.0 (suc m) (omega (arith, e, s.1)) (omega (arith, e)) s.2 in
      omega (arith, again, s.1)) in
      let more : Seen (suc m) (bit_or seen (2 ^ j)) =
      λ x q.
      ⊎_elim (λ (a : has seen x ≡ true). let s = S x a in (s.0, omega (arith, s.1), s.2)) (λ (a : eqb x j ≡ true). (suc m, omega arith, sym (eqb-true x j a)))
      (or_cases (has seen x) (eqb x j) (sym (has_insert seen j x) ∙ q)) in
      any_intro n _ j (station (suc m)) (and_intro (r.drives (iter h m 0) (station m)) (and_intro (ap not free) (on k (suc m) (bit_or seen (2 ^ j)) (omega (arith, e)) more)))

  goes_on_lem : goes_on n t (pred n) 1 0 ≡ true
  unfolding Seen
  goes_on_lem = on (pred n) 0 1 (omega (arith, some)) (λ j q. (0, omega arith, sym (has_one 0 j q)))

petersen_stuck : goes_on 10 (rows_of (begun petersen)) 9 1 0 ≡ false
unfolding definitions listed begun petersen goes_on
petersen_stuck = refl

petersen_none : (h : ℕ → ℕ) → RoundOf 10 (rows_of (begun petersen)) h → ⊥
petersen_none h r = not_both (goes_on_lem 10 (rows_of (begun petersen)) h r (omega arith)) petersen_stuck

pub no_promise : NoPromise
no_promise = record { stable = petersen_stable_lem; none = petersen_none; undriven = λ i j d. petersen_none d.choice d.round }
