-- What the components outside a set s are, without saying how they are found: the connected groups, by neighbours, of all stations outside it.
use Rattle.std.specs.Prelude.{◌≡◌, true, false, List, ℕ, ◌<◌, get_or, length}
use Rattle.bitset.specs.Sets.{has}
use Rattle.circuit.specs.Legs.{neighbours}
use Rattle.separator.specs.Choice.{Walk}

-- i is a station outside s
abbrev pub Free : ℕ → ℕ → ℕ → Type 0
Free n s i = (i < n) × (has s i ≡ false)

-- a path of neighbours outside s joins two stations: each is a neighbour of the one before
abbrev pub Joined : ℕ → List ℕ → ℕ → ℕ → ℕ → Type 0
Joined n t s = Walk (neighbours t) (Free n s)

-- i is in the group at place c of the list
abbrev pub Member : List ℕ → ℕ → ℕ → Type 0
Member cs c i = (c < length cs) × (has (get_or cs c 0) i ≡ true)

-- two stations are in the same group
abbrev pub Together : List ℕ → ℕ → ℕ → Type 0
Together cs i j = (c : ℕ) × Member cs c i × Member cs c j

-- the list has the connected groups of the stations outside s
pub record ConnectedGroups (n : ℕ) (t : List ℕ) (s : ℕ) (cs : List ℕ) : Type 0 where
  -- a group has a station
  pub some : (c : ℕ) → c < length cs → (i : ℕ) × Member cs c i
  -- and only stations outside s
  pub free : (c i : ℕ) → Member cs c i → Free n s i
  -- every station outside s is in a group
  pub covers : (i : ℕ) → Free n s i → (c : ℕ) × Member cs c i
  -- a path joins any two stations of a group
  pub joined : (c i j : ℕ) → Member cs c i → Member cs c j → Joined n t s i j
  -- a path does not leave the group
  pub kept : (c i j : ℕ) → Joined n t s i j → Member cs c i → Member cs c j
  -- no two groups share a station
  pub apart : (c d i : ℕ) → Member cs c i → Member cs d i → c ≡ d
