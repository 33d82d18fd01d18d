-- What the functions of the list check promise each other.
use Rattle.std.specs.Prelude.{◌≡◌, ◌≢◌, Bool, not, ◌&&◌, List, ℕ, pred, ◌<◌, get_or}
use Rattle.bitset.specs.Sets.{outside, has, all}
use Rattle.bitset.specs.Upto.{row}
use Rattle.circuit.specs.Round.{iter}

-- x is the number of a station, and the leg to it stands
unfoldable pub good_entry : ℕ → ℕ → ℕ → Bool
good_entry n legs x = not (outside 1 n x) && has legs (pred x)

-- each entry, with the row of its station
unfoldable pub good_entries : ℕ → List ℕ → List ℕ → Bool
good_entries n t s = all n (λ i. good_entry n (row t i) (get_or s i 0))

-- the first return to station 0 is after n steps
abbrev pub Returns : ℕ → (ℕ → ℕ) → Type 0
Returns n h = (iter h n 0 ≡ 0) × ((k : ℕ) → 0 < k → k < n → iter h k 0 ≢ 0)
