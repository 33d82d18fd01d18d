-- What the functions on tables promise each other.
use Rattle.std.specs.Prelude.{◌≡◌, Bool, false, not, cond, List, ℕ, ◌^◌, ◌<◌, eqb, ltb, length}
use Rattle.bitset.specs.Sets.{set_of, any}
use Rattle.bitset.specs.Upto.{row}
use Rattle.circuit.specs.Legs.{columns}
use Rattle.circuit.specs.State.{stray, stray_row}

-- the first n words are sets of numbers below n
abbrev pub Square : ℕ → List ℕ → Type 0
Square n t = (i : ℕ) → i < n → row t i < 2 ^ n

-- the rows of a table without stray legs, and its columns
pub record Columned (n : ℕ) (rows cols : List ℕ) : Type 0 where
  pub clean : stray n rows ≡ false
  pub len : length rows ≡ 64
  pub columns : cols ≡ columns n rows

-- row i of the full table
unfoldable pub full_row : ℕ → ℕ → ℕ
full_row n i = cond (ltb i n) (set_of n (λ j. not (eqb i j))) 0

-- the word has a member
abbrev pub some : ℕ → Bool
some w = not (eqb w 0)

-- the word tells whether one of the first m rows is stray
abbrev pub Tells : ℕ → List ℕ → ℕ → ℕ → Type 0
Tells n t m w = some w ≡ any m (λ i. stray_row n i (row t i))
