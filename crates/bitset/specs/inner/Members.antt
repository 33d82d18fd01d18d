-- What the leaf functions promise of the members of a word.
use Rattle.std.specs.Prelude.{◌≡◌, ℕ, ◌-◌, ◌<◌, true, false, MatchOption, Option}
use Rattle.std.specs.Int.Bits.{bit_and}
use Rattle.std.specs.Int.Count.{count_trailing_zeros}
use Rattle.bitset.specs.Sets.{has}

-- every member of a below m is one of b
abbrev pub Within : ℕ → ℕ → ℕ → Type 0
Within m a b = (k : ℕ) → k < m → has a k ≡ true → has b k ≡ true

-- t is the least member of w, and below m
pub record Least (m w t : ℕ) : Type 0 where
  pub below : t < m
  pub member : has w t ≡ true
  pub least : (k : ℕ) → k < t → has w k ≡ false

-- k is the least member of w, and v has the others
pub record Parts (w k v : ℕ) : Type 0 where
  pub nonempty : 0 < w
  pub below : k < 64
  pub least : k ≡ count_trailing_zeros 64 w
  pub others : v ≡ bit_and w (w - 1)

-- a step of the iterator over the members of a word: from w on it gave r, and v is left
abbrev pub GivesLeast : ℕ → Option ℕ → ℕ → Type 0
GivesLeast w r v = MatchOption r ((w ≡ 0) × (v ≡ 0)) (λ k. Parts w k v)
