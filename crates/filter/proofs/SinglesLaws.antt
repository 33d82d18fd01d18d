-- What `single_words` gathers, and what of it stays of a row. Assumes nothing.
use mathlib.Core.Path.{◌≡◌, refl, sym, ap, ap₂, ◌∙◌}
use mathlib.Core.Bool.{Bool, true, false, not, cond, ◌&&◌, ◌||◌, and_comm, and_assoc, and-true}
use mathlib.Core.List.{List}
use Prim.Native.Nat.{ℕ, ◌+◌, ◌-◌, ◌^◌, ◌<◌}
use native.Mathlib.Omega.{arith}
use lib.Bits.{bit_and, bit_or}
use lib.Dec.{eqb}
use lib.ListN.{get_or}
use borrow.Author.Tests.{eq-eqb, ne_eqb}
use Rattle.bitset.specs.Sets.{has, any}
use Rattle.bitset.proofs.BoolLaws.{cond_true, cond_false, cond_elim, taut2}
use Rattle.bitset.proofs.HasLaws.{has_zero, has_and, has_or}
use Rattle.bitset.proofs.QuantLaws.{any_next}
use Rattle.bitset.proofs.SetLaws.{has_diff}
use Rattle.filter.specs.declared.singles.Singles.{Singles}
use Rattle.filter.specs.inner.Singles.{single, holds, only, two, SinglesOf, keeps}
use Rattle.filter.proofs.OneLaws.{zero_single}

-- ---- a turn of the loop

-- no word so far
pub singles_start : (words : List ℕ) → SinglesOf 0 words (record { empty = false; reached = 0; again = 0; once = 0; twice = 0 })
unfolding any
singles_start words = record { empty = refl; reached = λ j l. has_zero j; again = λ j l. has_zero j; once = λ j l. has_zero j; twice = λ j l. has_zero j }

-- a word w joins: what some word has, and what two words have
module _ (k w once twice j : ℕ) (p : ℕ → Bool) (here : has w j ≡ p k) (o : has once j ≡ any k p) where
  pub once_turn : has (bit_or once w) j ≡ any (k + 1) p
  once_turn = has_or once w j ∙ ap₂ (λ (a b : Bool). a || b) o here ∙ sym (any_next k p)

  twice_turn : has twice j ≡ two k p → has (bit_or twice (bit_and once w)) j ≡ two (k + 1) p
  twice_turn e =
      has_or twice (bit_and once w) j ∙ ap₂ (λ (a b : Bool). a || b) e (has_and once w j ∙ ap₂ (λ (a b : Bool). a && b) o here ∙ and_comm (any k p) (p k))
      ∙ sym (any_next k (λ m. p m && any m p))

-- the word at k joins
pub singles_turn : (words : List ℕ) (k w : ℕ) (r : Singles) → w ≡ cond (single (get_or words k 0)) (get_or words k 0) 0 → SinglesOf k words r
    → SinglesOf (k + 1) words (record { empty = r.empty || eqb (get_or words k 0) 0; reached = bit_or r.reached (get_or words k 0); again = bit_or r.again (bit_and r.reached (get_or words k 0)); once = bit_or r.once w; twice = bit_or r.twice (bit_and r.once w) })
singles_turn words k w r e s =
    let word = get_or words k 0 in
    record {
      empty = ap (λ (b : Bool). b || eqb word 0) s.empty ∙ sym (any_next k (λ m. eqb (get_or words m 0) 0));
      reached = λ j l. once_turn k word r.reached r.again j (holds words j) refl (s.reached j l);
      again = λ j l. twice_turn k word r.reached r.again j (holds words j) refl (s.reached j l) (s.again j l);
      once = λ j l. once_turn k w r.once r.twice j (only words j) (at j) (s.once j l);
      twice = λ j l. twice_turn k w r.once r.twice j (only words j) (at j) (s.once j l) (s.twice j l);
    }
  where
    at : (j : ℕ) → has w j ≡ only words j k
    at j = ap (λ (x : ℕ). has x j) e

-- ---- what is left of a row

module _ (row taken own j : ℕ) (next : Singles) (fits : taken < 2 ^ 64) (low : j < 64) (is : taken ≡ cond (single row) next.twice next.once) where
  other : Bool
  other = cond (single row) (has next.twice j) (has next.once j)

  left_bit : has (bit_and row ((2 ^ 64 - 1) - taken)) j ≡ has row j && not other
  unfolding other
  left_bit =
      has_diff 64 row taken j fits low
      ∙ ap (λ (b : Bool). has row j && not b) (ap (λ (w : ℕ). has w j) is ∙ cond_elim (λ (w : ℕ). has w j ≡ cond (single row) (has next.twice j) (has next.once j)) (single row) next.twice next.once
      (λ e. sym (cond_true (has next.twice j) (has next.once j) e)) (λ e. sym (cond_false (has next.twice j) (has next.once j) e)))

  pub all_left : own ≡ 0 → has (bit_and row ((2 ^ 64 - 1) - taken)) j ≡ has row j && keeps next own row j
  unfolding other
  all_left e =
      left_bit
      ∙ ap (λ (b : Bool). has row j && b) (sym (ap (λ (b : Bool). not other && b) (cond_false (has own j) (eqb own 0) (ap single e ∙ zero_single) ∙ eq-eqb own 0 e) ∙ and-true (not other)))

  pub some_left : single own ≡ true → has (bit_and (bit_and row ((2 ^ 64 - 1) - taken)) own) j ≡ has row j && keeps next own row j
  unfolding other
  some_left e = has_and (bit_and row ((2 ^ 64 - 1) - taken)) own j ∙ ap (λ (b : Bool). b && has own j) left_bit ∙ rw e (and_assoc (has row j) _ (has own j))

  pub none_left : 0 < own → single own ≡ false → has 0 j ≡ has row j && keeps next own row j
  unfolding other
  none_left l e = has_zero j ∙ sym (rw (e, ne_eqb own 0 (λ (x : own ≡ 0). omega arith)) (taut2 (λ a b. a && (b && false)) (λ a b. false) refl (has row j) (not other)))
