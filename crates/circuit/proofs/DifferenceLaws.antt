-- The legs of one table that do not stand in another, and the empty table. Assumes nothing.
use mathlib.Core.Path.{◌≡◌, refl, sym, ap, ◌∙◌}
use mathlib.Core.Bool.{Bool, true, false, not, ◌&&◌}
use mathlib.Core.List.{List}
use Prim.Native.Nat.{ℕ, zero, suc, ◌+◌, ◌≤◌, ◌<◌}
use native.Mathlib.Nat.{le_refl, lt_of_lt_of_le}
use lib.ListN.{replicate}
use borrow.Author.Tests.{not-true}
use Rattle.bitset.specs.Sets.{digit, has, set_of, size}
use Rattle.bitset.specs.Upto.{upto, row}
use Rattle.bitset.proofs.BoolLaws.{clash, and_r, taut1}
use Rattle.bitset.proofs.HasLaws.{has_zero}
use Rattle.bitset.proofs.OnesLaws.{count_parts, count_none}
use Rattle.bitset.proofs.SumLaws.{sum_ext, sum_add, sum_zero}
use Rattle.circuit.specs.Legs.{leg, table_of, without, difference, legs, no_legs, Subtable}
use Rattle.circuit.proofs.LegsLaws.{leg_table_of, table_of_leg, table_of_ext, without_sub}

-- ---- its legs

module _ (t u : List ℕ) where
  pub difference_leg : (i j : ℕ) → i < 64 → j < 64 → leg (difference t u) i j ≡ leg t i j && not (leg u i j)
  unfolding without
  difference_leg i j li lj = leg_table_of 64 (λ i j. leg t i j && not (leg u i j)) i j (le_refl 64) li lj

  -- each of them stands in the one table and not in the other
  pub difference_sub : Subtable (difference t u) t
  difference_sub = without_sub 64 t (leg u)

  pub difference_apart : (i j : ℕ) → leg (difference t u) i j ≡ true → leg u i j ≡ false
  unfolding without
  difference_apart i j e = not-true (leg u i j) (and_r (leg t i j) (not (leg u i j)) (table_of_leg 64 (λ i j. leg t i j && not (leg u i j)) i j e).2)

  -- the table u within t is what is left of t without them
  pub difference_left : Subtable u t → (i j : ℕ) → i < 64 → j < 64 → leg u i j ≡ leg t i j && not (leg (difference t u) i j)
  difference_left sub i j li lj = within (leg t i j) (leg u i j) (sub i j) ∙ ap (λ (b : Bool). leg t i j && not b) (sym (difference_leg i j li lj))
    where
      within : (a b : Bool) → (b ≡ true → a ≡ true) → b ≡ a && not (a && not b)
      within true true f = refl
      within true false f = refl
      within false true f = sym (f refl)
      within false false f = refl

  -- the legs of both together are those of t
  pub legs_difference : (n : ℕ) → n ≤ 64 → Subtable u t → legs n (difference t u) + legs n u ≡ legs n t
  unfolding legs size leg digit
  legs_difference n le sub =
      sym (sum_add n (λ i. size n (row (difference t u) i)) (λ i. size n (row u i)))
      ∙ sum_ext n _ _ (λ i li. sym (count_parts n (has (row (difference t u) i)) (has (row u i)) (has (row t i)) (λ j lj.
      parts (leg t i j) (leg u i j) (leg (difference t u) i j) (sub i j) (difference_leg i j (lt_of_lt_of_le li le) (lt_of_lt_of_le lj le)))))
    where
      parts : (a b c : Bool) → (b ≡ true → a ≡ true) → c ≡ a && not b → digit a ≡ digit c + digit b
      parts true true c f e = ap (λ (x : Bool). digit x + 1) (sym e)
      parts true false c f e = ap (λ (x : Bool). digit x + 0) (sym e)
      parts false true c f e = clash (sym (f refl))
      parts false false c f e = ap (λ (x : Bool). digit x + 0) (sym e)

-- ---- the empty table

pub zeros_at : (k i : ℕ) → row (replicate k 0) i ≡ 0
zeros_at zero i = refl
zeros_at (suc k) zero = refl
zeros_at (suc k) (suc i) = zeros_at k i

pub no_leg : (i j : ℕ) → leg no_legs i j ≡ false
unfolding leg
no_leg i j = ap (λ (x : ℕ). has x j) (zeros_at 64 i) ∙ has_zero j

pub legs_none : (n : ℕ) → legs n no_legs ≡ 0
unfolding legs size leg
legs_none n = sum_ext n (λ i. size n (row no_legs i)) (λ _. 0) (λ i _. count_none n (has (row no_legs i)) (λ j _. no_leg i j)) ∙ sum_zero n

-- no leg of a table is missing from itself
pub difference_self : (t : List ℕ) → difference t t ≡ no_legs
unfolding without table_of upto set_of digit
difference_self t = table_of_ext 64 (λ i j. leg t i j && not (leg t i j)) (λ _ _. false) (λ i j _ _. taut1 (λ b. b && not b) (λ _. false) refl (leg t i j))
