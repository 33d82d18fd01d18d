-- What the idle test knows of the stations outside a level: groups of them, each known by one of its stations, the pivot. All is said of words alone: those of the
-- rows, of the columns and of the neighbours of a table. Nothing says that a group is whole, so what follows from it is one-sided.
use Rattle.std.specs.Prelude.{◌≡◌, ◌≢◌, true, false, List, ℕ, ◌<◌, ◌≤◌, get_or}
use Rattle.bitset.specs.Sets.{has}
use Rattle.bitset.specs.Upto.{row}
use Rattle.circuit.specs.Legs.{leg}
use Rattle.matching.specs.Matching.{Assignment, LeftOut}
use Rattle.idle.specs.declared.group.Group.{Group}
use Rattle.idle.specs.declared.groups.Groups.{Groups}
use Rattle.separator.specs.declared.level.Ends.{Ends}
use Rattle.idle.specs.declared.ways.Ways.{Ways}
use Rattle.separator.specs.declared.reach.Led.{Led}
use Rattle.separator.specs.Choice.{Walk}

-- every station of the one word is in the other
abbrev pub Part : ℕ → ℕ → Type 0
Part v w = (x : ℕ) → has v x ≡ true → has w x ≡ true

-- and so of each word of a list
abbrev pub Within : List ℕ → List ℕ → Type 0
Within words nbr = (i j : ℕ) → leg words i j ≡ true → leg nbr i j ≡ true

-- a walk along words at stations of `room`
abbrev pub Along : List ℕ → ℕ → ℕ → ℕ → Type 0
Along words room = Walk (leg words) (λ x. has room x ≡ true)

-- x is in the word of a station that p leads to
abbrev pub LedTo : List ℕ → ℕ → ℕ → ℕ → Type 0
LedTo words room p x = (y : ℕ) × Along words room p y × (leg words y x ≡ true)

-- p leads to each station of `all`, and each of `beyond` is in the word of a station that p leads to
pub record Reaches (words : List ℕ) (room p : ℕ) (r : Led) : Type 0 where
  pub walked : (x : ℕ) → has r.all x ≡ true → Along words room p x
  pub led : (x : ℕ) → has r.beyond x ≡ true → LedTo words room p x

-- what a group knows: where its pivot leads by rows and by columns, and that its stations hang together with the pivot
pub record GroupIn (rows cols nbr : List ℕ) (room : ℕ) (g : Group) : Type 0 where
  pub pivot : ℕ
  pub ahead : Reaches rows room pivot g.ahead
  pub back : Reaches cols room pivot g.back
  pub hangs : (x : ℕ) → has g.part x ≡ true → Along nbr room pivot x

-- of the rows, the columns and the neighbours of a network
abbrev pub GroupOf : Ways → ℕ → Group → Type 0
GroupOf w = GroupIn w.net.now.rows w.net.now.cols w.nbr.now

-- the group at a place of an array
abbrev pub group_at : List Group → ℕ → Group
group_at groups g = get_or groups g (record { part = 0; ahead = record { all = 0; beyond = 0 }; back = record { all = 0; beyond = 0 } })

-- the first `count` groups have all stations of the room but those of `left`
pub record GroupingIn (rows cols nbr : List ℕ) (g : Groups) : Type 0 where
  pub each : (k : ℕ) → k < g.count → GroupIn rows cols nbr g.room (group_at g.groups k)
  pub covers : (x : ℕ) → has g.room x ≡ true → has g.left x ≡ false → (k : ℕ) × (k < g.count) × (has (group_at g.groups k).part x ≡ true)
  pub inside : Part g.left g.room

abbrev pub Grouping : Ways → Groups → Type 0
Grouping w = GroupingIn w.net.now.rows w.net.now.cols w.nbr.now

-- x is a station of s that A holds of, and B holds of another one
abbrev pub Pair : ℕ → (ℕ → Type 0) → (ℕ → Type 0) → ℕ → Type 0
Pair s A B x = (has s x ≡ true) × A x × ((y : ℕ) × (has s y ≡ true) × B y × (y ≢ x))

-- `tails` and `heads` have first and second stations of pairs of s that a way through the pivot joins: a leg to a station that leads to p, and a leg from one that p
-- leads to
pub record Pairs (rows cols : List ℕ) (room s p tails heads : ℕ) : Type 0 where
  pub tail : (x : ℕ) → has tails x ≡ true → Pair s (LedTo cols room p) (LedTo rows room p) x
  pub head : (x : ℕ) → has heads x ≡ true → Pair s (LedTo rows room p) (LedTo cols room p) x

-- the ends at a place of an array
abbrev pub ends_at : List Ends → ℕ → Ends
ends_at ends k = get_or ends k (record { tails = 0; heads = 0 })

-- the p components of `fits` can have stations of their own, whichever station of s that is in the word of one of s is left out
pub record Settles (fits : List ℕ) (p s : ℕ) (words : List ℕ) : Type 0 where
  pub some : Assignment fits p
  pub spare : (x y : ℕ) → has s x ≡ true → has s y ≡ true → leg words y x ≡ true → LeftOut fits p x

-- the word w has just the stations of the levels from i to j - 1
pub record Spans (level : List ℕ) (i j w : ℕ) : Type 0 where
  pub holds : (x : ℕ) → has w x ≡ true → (k : ℕ) × (i ≤ k) × (k < j) × (has (row level k) x ≡ true)
  pub found : (k x : ℕ) → i ≤ k → k < j → has (row level k) x ≡ true → has w x ≡ true
