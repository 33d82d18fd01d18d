-- What the functions of one level promise: the rule of `specs/Level` on words. The code does not know n, so it reads a table as one of 64 stations.
use Rattle.std.specs.Prelude.{◌≡◌, Bool, true, false, not, cond, ◌&&◌, List, ℕ, zero, suc, ◌^◌, ◌<◌, length, Option, is_some, IfSome}
use Rattle.bitset.specs.Sets.{has, any, set_of}
use Rattle.bitset.specs.Tests.{Decides}
use Rattle.bitset.specs.Upto.{row}
use Rattle.circuit.specs.Legs.{leg}
use Rattle.matching.specs.Matching.{Assignment, LeftOut}
use Rattle.separator.specs.declared.level.Core.{Core}
use Rattle.separator.specs.declared.level.Spares.{Spares}
use Rattle.separator.specs.Components.{grow}
use Rattle.separator.specs.Level.{marking, passable, struck}
use Rattle.separator.specs.inner.Reach.{entered}

-- ---- marks

-- the component of the mark m; bare has none
unfoldable pub part_of : List ℕ → ℕ → ℕ
part_of cs zero = 0
part_of cs (suc c) = row cs c

-- A core of the component w: by legs inside w each station of `back` leads to all of `ahead`, and from there no leg leads further. `beyond` has the stations that
-- have a leg from `ahead`.
pub record CoreOf (t : List ℕ) (w : ℕ) (core : Core) : Type 0 where
  pub fits : core.ahead < 2 ^ 64
  pub closed : (a b : ℕ) → a < 64 → b < 64 → leg t a b ≡ true → has w b ≡ true → has core.ahead a ≡ true → has core.ahead b ≡ true
  pub leads : (a b : ℕ) → has core.back a ≡ true → has core.ahead b ≡ true → has (grow 64 64 (leg t) w (2 ^ a)) b ≡ true
  pub beyond : core.beyond ≡ entered t core.ahead

-- `tails` has the first and `heads` the second stations of the pairs on which a mark stands
pub record EndsOf (on : ℕ → ℕ → Bool) (tails heads : ℕ) : Type 0 where
  pub tail : tails ≡ set_of 64 (λ i. any 64 (λ j. on i j))
  pub head : heads ≡ set_of 64 (λ j. any 64 (λ i. on i j))

-- ---- choices

-- One side, out or in: x may take its pair with y by the mark m.
-- `fits` has for each of the p components the stations that can take it, words beyond these are left open; `some` has the stations with a mark.
pub record Side (may : ℕ → ℕ → ℕ → Bool) (p : ℕ) (fits : List ℕ) (some : ℕ) : Type 0 where
  pub size : length fits ≡ 64
  pub component : (c : ℕ) → c < p → row fits c ≡ set_of 64 (λ x. any 64 (λ y. may x y (suc c)))
  pub any_mark : some ≡ set_of 64 (λ x. any (suc p) (λ m. any 64 (λ y. may x y m)))

-- `complete` says whether every station of s has a mark and the components can be assigned; then `spare` has just the stations that some assignment
-- leaves out, and otherwise none
pub record Settled (fits : List ℕ) (p s some : ℕ) (complete : Bool) (spare : ℕ) : Type 0 where
  pub both : Decides complete (((x : ℕ) → has s x ≡ true → has some x ≡ true) × Assignment fits p)
  pub left : complete ≡ true → (x : ℕ) → Decides (has spare x) ((has s x ≡ true) × LeftOut fits p x)
  pub empty : complete ≡ false → spare ≡ 0

-- ---- the cut

-- the cut takes j out of the word of i: both are stations of s, and i is not in `out` or j not in `into`
abbrev pub cuts : ℕ → ℕ → ℕ → ℕ → ℕ → Bool
cuts s out into i j = has s i && has s j && not (has out i && has into j)

-- the word w of i, cut
unfoldable pub cut_row : ℕ → ℕ → ℕ → ℕ → ℕ → ℕ
cut_row s out into i w = cond (has s i) (set_of 64 (λ j. has w j && not (cuts s out into i j))) w

-- each of the 64 words is cut
pub record Cut (s out into : ℕ) (before after : List ℕ) : Type 0 where
  pub size : length after ≡ 64
  pub word : (k : ℕ) → k < 64 → row after k ≡ cut_row s out into k (row before k)

-- What `Level::spares` says of the level s: whether it allows something, and then that the rule strikes the legs that the cut takes out. Left open are the
-- stations of `out` and `into` without a leg inside s: nothing depends on these.
pub record SparesOf (n : ℕ) (t : List ℕ) (s : ℕ) (r : Option Spares) : Type 0 where
  pub verdict : is_some r ≡ passable n s (marking n t s)
  pub strikes : IfSome r (λ q. (i j : ℕ) → i < n → j < n → leg t i j ≡ true → struck n s (marking n t s) i j ≡ cuts s q.out q.into i j)
