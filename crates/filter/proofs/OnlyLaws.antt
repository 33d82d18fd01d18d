-- The only next and the only previous of a station, as sets with one member. Assumes nothing.
use mathlib.Core.Path.{◌≡◌, sym, ap, ◌∙◌}
use mathlib.Core.Bool.{true}
use mathlib.Core.List.{List}
use Prim.Native.Nat.{ℕ, ◌^◌, ◌≤◌, ◌<◌}
use Rattle.bitset.specs.Sets.{has}
use Rattle.bitset.specs.Upto.{row}
use Rattle.bitset.proofs.SetLaws.{has_one, pow_only}
use Rattle.circuit.specs.Legs.{leg, columns}
use Rattle.circuit.proofs.LegsLaws.{column_leg, columns_square}
use Rattle.filter.specs.Trail.{OnlyNext}

module _ (n : ℕ) (t : List ℕ) (i j : ℕ) where
  pub row_only : row t i ≡ 2 ^ j → OnlyNext n (leg t) i j
  unfolding leg
  row_only e k l q = has_one j k (ap (λ (w : ℕ). has w k) (sym e) ∙ q)

  -- and back, where the leg stands
  pub only_row : row t i < 2 ^ n → j < n → leg t i j ≡ true → OnlyNext n (leg t) i j → row t i ≡ 2 ^ j
  unfolding leg
  only_row = pow_only n (row t i) j

module _ (n : ℕ) (t : List ℕ) (le : n ≤ 64) (i j : ℕ) (lj : j < n) where
  pub column_only : row (columns n t) j ≡ 2 ^ i → OnlyNext n (λ j i. leg t i j) j i
  column_only e k l q = row_only n (columns n t) j i e k l (column_leg n t le k j l lj ∙ q)

  pub only_column : i < n → leg t i j ≡ true → OnlyNext n (λ j i. leg t i j) j i → row (columns n t) j ≡ 2 ^ i
  only_column li stands only =
      only_row n (columns n t) j i (columns_square n t le j lj) li (column_leg n t le i j li lj ∙ stands) (λ k l q. only k l (sym (column_leg n t le k j l lj) ∙ q))
