-- What finding levels and components promises, sets of the n stations of a table t, in arrays of 64 words; and what walking along legs does.
use Rattle.std.specs.Prelude.{◌≡◌, true, ◌&&◌, List, ℕ, ◌≤◌, length}
use Rattle.bitset.specs.Sets.{has, any, set_of}
use Rattle.bitset.specs.Upto.{upto, row}
use Rattle.circuit.specs.Legs.{leg, neighbours, table_of}
use Rattle.separator.specs.declared.reach.Levels.{Levels}
use Rattle.separator.specs.declared.reach.Led.{Led}
use Rattle.separator.specs.Components.{grow}
use Rattle.separator.specs.Levels.{levels, unreached}

-- the words of nbr are the neighbours of each station
pub record Linked (n : ℕ) (t nbr : List ℕ) : Type 0 where
  pub most : n ≤ 64
  pub table : nbr ≡ table_of n (neighbours t)

-- each of two stations is in the word of the other, or neither is
abbrev pub Mutual : List ℕ → Type 0
Mutual nbr = (i j : ℕ) → leg nbr i j ≡ true → leg nbr j i ≡ true

-- the first `count` words are the sets of the list, and the others are 0
pub record Listed (ls words : List ℕ) (count : ℕ) : Type 0 where
  pub many : count ≡ length ls
  pub array : words ≡ upto 64 (row ls)

-- the levels of a seed are found, and the stations in none of them
pub record LevelsOf (n : ℕ) (t : List ℕ) (seed : ℕ) (r : Levels) : Type 0 where
  pub listed : Listed (levels n t seed) r.level r.count
  pub unreached : r.unreached ≡ unreached n (levels n t seed)

-- the stations that have a leg from a station of w
unfoldable pub entered : List ℕ → ℕ → ℕ
entered t w = set_of 64 (λ j. any 64 (λ d. has w d && leg t d j))

-- what `start` leads to by legs inside `room`, and the stations that have a leg from there
pub record LedFrom (t : List ℕ) (room start : ℕ) (r : Led) : Type 0 where
  pub all : r.all ≡ grow 64 64 (leg t) room start
  pub beyond : r.beyond ≡ entered t r.all
