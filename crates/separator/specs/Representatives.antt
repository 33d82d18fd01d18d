-- What the choice theorem says that a choice comes to: a mark for every station, and distinct representatives of the components.
use Rattle.std.specs.Prelude.{◌≡◌, Bool, true, ℕ, suc, ◌<◌}
use Rattle.bitset.specs.Sets.{has, any}

-- distinct representatives: each component below p has a station of its own that can take it
pub record Representatives (Can : ℕ → ℕ → Type 0) (p : ℕ) : Type 0 where
  pub of : ℕ → ℕ
  pub can : (c : ℕ) → c < p → Can c (of c)
  pub apart : (c d : ℕ) → c < p → d < p → of c ≡ of d → c ≡ d

-- `may x y m` says that x may be given its pair with y, and the mark m; the p components are the marks 1 to p
module _ (n s p : ℕ) (may : ℕ → ℕ → ℕ → Bool) where
  -- each station of s has a mark on one of its pairs
  abbrev pub AllMarked : Type 0
  AllMarked = (x : ℕ) → x < n → has s x ≡ true → any n (λ y. any (suc p) (may x y)) ≡ true

  -- x is a station of s that can take the component c
  abbrev pub CanTake : ℕ → ℕ → Type 0
  CanTake c x = (x < n) × (has s x ≡ true) × (any n (λ y. may x y (suc c)) ≡ true)
