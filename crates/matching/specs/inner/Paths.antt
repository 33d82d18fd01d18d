-- What the inner functions promise of a matching that grows, and of the alternating paths along which it does. Assumes nothing.
use Rattle.std.specs.Prelude.{◌≡◌, ◌⊎◌, List, ℕ, ◌+◌, ◌<◌, length, Option, MatchOption}
use Rattle.bitset.specs.Upto.{row}
use Rattle.matching.specs.Matching.{In, Out, Assigns, Assignment}

-- the components below n are matched: `free` has the stations that none of them has, and `owner` names the component at each other station
pub record Matched (fits owner : List ℕ) (n stations free : ℕ) : Type 0 where
  pub size : length owner ≡ 64
  pub to : ℕ → ℕ
  pub good : Assigns fits n to
  pub inside : (s : ℕ) → In free s → In stations s
  pub vacant : (s c : ℕ) → In free s → c < n → to c ≡ s → ⊥
  pub owned : (s : ℕ) → In stations s → Out free s → (row owner s < n) × (to (row owner s) ≡ s)

-- the first step of an alternating path from the station s: its component moves on to a station of `reach`, of a lower rank
pub record Step (fits : List ℕ) (reach : ℕ) (who via rank : ℕ → ℕ) (s : ℕ) : Type 0 where
  pub goes : In (row fits (who s)) (via s)
  pub stays : In reach (via s)
  pub falls : rank (via s) < rank s

-- from each station of `reach` an alternating path leads to a free one
pub record Forest (fits : List ℕ) (stations free reach : ℕ) (who via rank : ℕ → ℕ) : Type 0 where
  pub inside : (s : ℕ) → In reach s → In stations s
  pub start : (s : ℕ) → In free s → In reach s
  pub step : (s : ℕ) → In reach s → In free s ⊎ Step fits reach who via rank s

-- the component at the station s can move to no station of `reach`
abbrev pub Blocked : List ℕ → ℕ → (ℕ → ℕ) → ℕ → Type 0
Blocked fits reach who s = (t : ℕ) → In (row fits (who s)) t → In reach t → ⊥

-- `reach` has just the stations with an alternating path to a free one, and `via` the first steps of such paths
pub record Reached (fits owner : List ℕ) (stations free reach : ℕ) (via : List ℕ) : Type 0 where
  pub size : length via ≡ 64
  pub rank : ℕ → ℕ
  pub forest : Forest fits stations free reach (row owner) (row via) rank
  pub closed : (s : ℕ) → In stations s → Out reach s → Blocked fits reach (row owner) s

-- an augmenting path goes from the component n, which is not matched, to the station t and on by `via`
pub record Augmenting (fits owner : List ℕ) (n stations free reach : ℕ) (via : List ℕ) (t : ℕ) : Type 0 where
  pub matched : Matched fits owner n stations free
  pub rank : ℕ → ℕ
  pub forest : Forest fits stations free reach (row owner) (row via) rank
  pub hit : In (row fits n) t
  pub within : In reach t

-- one component more is matched and `free` is left, or there is no assignment with it
pub record Extended (fits owner via : List ℕ) (n stations : ℕ) (r : Option ℕ) : Type 0 where
  pub size : length via ≡ 64
  pub matched : MatchOption r (Assignment fits (n + 1) → ⊥) (λ free. Matched fits owner (n + 1) stations free)
