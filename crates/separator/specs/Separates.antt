-- What makes the rule of a level sound: the level is a separator.
use Rattle.std.specs.Prelude.{◌≡◌, true, false, List, ℕ, ◌<◌}
use Rattle.bitset.specs.Sets.{has}
use Rattle.circuit.specs.Legs.{neighbours}

-- s parts the stations: it has one, there is one on each side, and no neighbours face each other across s
pub record Separates (n : ℕ) (t : List ℕ) (s : ℕ) : Type 0 where
  pub some : (i : ℕ) × (i < n) × (has s i ≡ true)
  pub side : ℕ
  pub here : (a : ℕ) × (a < n) × (has s a ≡ false) × (has side a ≡ true)
  pub there : (a : ℕ) × (a < n) × (has s a ≡ false) × (has side a ≡ false)
  pub wall : (a b : ℕ) → a < n → b < n → has s b ≡ false → neighbours t a b ≡ true → has side a ≡ true → has side b ≡ true
