-- What `assign` promises. A set of stations is a word; `fits` lists, for each component, the word of the stations that can take it: a bipartite
-- graph between components and stations. An assignment is a matching of that graph that saturates the components. Assumes nothing.
use Rattle.std.specs.Prelude.{◌≡◌, Bool, true, false, List, ℕ, ◌<◌}
use Rattle.bitset.specs.Sets.{has}
use Rattle.bitset.specs.Tests.{Decides}
use Rattle.bitset.specs.Upto.{row}

-- the station s is in the word w, or is not
abbrev pub In : ℕ → ℕ → Type 0
In w s = has w s ≡ true

abbrev pub Out : ℕ → ℕ → Type 0
Out w s = has w s ≡ false

-- `to` gives each component below p a station that can take it, and no two the same
pub record Assigns (fits : List ℕ) (p : ℕ) (to : ℕ → ℕ) : Type 0 where
  pub fit : (c : ℕ) → c < p → In (row fits c) (to c)
  pub apart : (c d : ℕ) → c < p → d < p → to c ≡ to d → c ≡ d

pub record Assignment (fits : List ℕ) (p : ℕ) : Type 0 where
  pub to : ℕ → ℕ
  pub good : Assigns fits p to

-- only members of `stations` can take components below p
abbrev pub Inside : List ℕ → ℕ → ℕ → Type 0
Inside fits p stations = (c s : ℕ) → c < p → In (row fits c) s → In stations s

-- the station s is spare: some assignment leaves it out
abbrev pub LeftOut : List ℕ → ℕ → ℕ → Type 0
LeftOut fits p s = (a : Assignment fits p) × ((c : ℕ) → c < p → a.to c ≡ s → ⊥)

-- `complete` says whether there is an assignment; then `spare` has just the spare stations, and otherwise none
pub record Exact (fits : List ℕ) (p stations : ℕ) (complete : Bool) (spare : ℕ) : Type 0 where
  pub some : Decides complete (Assignment fits p)
  pub left : complete ≡ true → (s : ℕ) → Decides (has spare s) (In stations s × LeftOut fits p s)
  pub empty : complete ≡ false → spare ≡ 0
