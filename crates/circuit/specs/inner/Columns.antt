-- What the functions that transpose a table promise each other.
use Rattle.std.specs.Prelude.{◌≡◌, ◌≢◌, not, cond, ◌&&◌, List, ℕ, ◌+◌, ◌-◌, ◌*◌, ◌^◌, ◌≤◌, ◌<◌, leb, ltb, length}
use Rattle.bitset.specs.Sets.{has, set_of}
use Rattle.bitset.specs.Upto.{row}
use Rattle.circuit.specs.inner.Tables.{Square}

-- 64 words: the first n are sets of numbers below n, the others are empty
pub record Corner (n : ℕ) (t : List ℕ) : Type 0 where
  pub len : length t ≡ 64
  pub square : Square n t
  pub beyond : (i : ℕ) → n ≤ i → i < 64 → row t i ≡ 0

-- the first n words, and 0 beyond
unfoldable pub first_word : ℕ → List ℕ → ℕ → ℕ
first_word n t i = cond (ltb i n) (row t i) 0

-- the numbers below 64 whose binary digit b is clear
unfoldable pub clear_at : ℕ → ℕ
clear_at b = set_of 64 (λ j. not (has j b))

-- Two words h apart swap quarters: the low one keeps its bits at m, and gets those of the high one in the places h above;
-- the high one keeps its bits outside m, and gets those of the low one in the places h below.
unfoldable pub low_word : ℕ → ℕ → ℕ → ℕ → ℕ
low_word h m lo hi = set_of 64 (λ j. cond (has m j) (has lo j) (leb h j && has hi (j - h)))

unfoldable pub high_word : ℕ → ℕ → ℕ → ℕ → ℕ
high_word h m lo hi = set_of 64 (λ j. cond (has m j) (has lo (h + j)) (has hi j))

-- words k and k + h of a have done so in b
pub record Pair (h m k : ℕ) (a b : List ℕ) : Type 0 where
  pub low : row b k ≡ low_word h m (row a k) (row a (k + h))
  pub high : row b (k + h) ≡ high_word h m (row a k) (row a (k + h))

-- the first c pairs from word `at` on have, and no other word has changed; 64-bit words stay 64-bit words
pub record Pairs (h m at c : ℕ) (a b : List ℕ) : Type 0 where
  pub len : length b ≡ 64
  pub small : (k : ℕ) → row a k < 2 ^ 64 → row b k < 2 ^ 64
  pub done : (i : ℕ) → i < c → Pair h m (at + i) a b
  pub rest : (k : ℕ) → ((i : ℕ) → i < c → (k ≢ at + i) × (k ≢ at + i + h)) → row b k ≡ row a k

-- the pairs of the first p squares have, and no later word has changed
pub record Swapped (h m p : ℕ) (a b : List ℕ) : Type 0 where
  pub len : length b ≡ 64
  pub small : (k : ℕ) → row a k < 2 ^ 64 → row b k < 2 ^ 64
  pub done : (q i : ℕ) → q < p → i < h → Pair h m (q * (2 * h) + i) a b
  pub rest : (k : ℕ) → p * (2 * h) ≤ k → row b k ≡ row a k
