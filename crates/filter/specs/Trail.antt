-- The chain step in the paper's words, without tests that compute: its notions as relations, and what it says of a table.
use Rattle.std.specs.Prelude.{◌≡◌, ◌≢◌, ◌⊎◌, Bool, true, false, List, ℕ, suc, ◌≤◌, ◌<◌}
use Rattle.bitset.specs.Tests.{Decides}
use Rattle.circuit.specs.declared.verdict.Verdict.{Verdict}
use Rattle.circuit.specs.Legs.{leg}

-- j is the only next of i; `OnlyNext n (λ j i. leg i j) j i` says that i is the only previous of j
abbrev pub OnlyNext : ℕ → (ℕ → ℕ → Bool) → ℕ → ℕ → Type 0
OnlyNext n leg i j = (k : ℕ) → k < n → leg i k ≡ true → k ≡ j

-- the leg i→j is compulsory: its station's only leg out, or its target's only leg in
pub record Compulsory (n : ℕ) (t : List ℕ) (i j : ℕ) : Type 0 where
  pub from : i < n
  pub to : j < n
  pub stands : leg t i j ≡ true
  pub only : OnlyNext n (leg t) i j ⊎ OnlyNext n (λ j i. leg t i j) j i

-- ---- of any legs, those that are compulsory: `L i j` says that i→j is one of them

-- two legs leave one station
pub record Splits (L : ℕ → ℕ → Type 0) : Type 0 where
  pub station : ℕ
  pub next : ℕ
  pub other : ℕ
  pub leads : L station next
  pub leads_too : L station other
  pub differ : next ≢ other

-- two legs leave or enter one station
abbrev pub Fork : (ℕ → ℕ → Type 0) → Type 0
Fork L = Splits L ⊎ Splits (λ j i. L i j)

-- k legs lead from a to b
pub record Trail (L : ℕ → ℕ → Type 0) (k a b : ℕ) : Type 0 where
  -- the stations in order
  pub at : ℕ → ℕ
  pub starts : at 0 ≡ a
  pub ends : at k ≡ b
  pub legs : (i : ℕ) → i < k → L (at i) (at (suc i))

-- the first k stations are different
abbrev pub Different : (ℕ → ℕ) → ℕ → Type 0
Different at k = (i j : ℕ) → i < k → j < k → at i ≡ at j → i ≡ j

-- legs close a loop over fewer than all n stations
pub record Loop (n : ℕ) (L : ℕ → ℕ → Type 0) : Type 0 where
  pub start : ℕ
  pub length : ℕ
  pub some : 1 ≤ length
  pub fewer : length < n
  pub trail : Trail L length start start
  pub once : Different trail.at length

-- the leg b→a closes a chain of legs from a to b that can't be lengthened and covers fewer than all n stations
pub record Closing (n : ℕ) (L : ℕ → ℕ → Type 0) (b a : ℕ) : Type 0 where
  pub length : ℕ
  pub some : 1 ≤ length
  pub fewer : suc length < n
  pub trail : Trail L length a b
  pub once : Different trail.at (suc length)
  pub first : (i : ℕ) → L i a → ⊥
  pub last : (j : ℕ) → L b j → ⊥

-- ---- the chain step

-- what it says of the table t
pub record ChainSays (n : ℕ) (t : List ℕ) (v : Verdict) : Type 0 where
  -- none, where two compulsory legs leave or enter one station, or compulsory legs close a loop over fewer than all stations; then the table stays
  pub none : Decides v.none (Fork (Compulsory n t) ⊎ Loop n (Compulsory n t))
  pub stays : v.none ≡ true → v.left ≡ t
  -- otherwise just the legs go that close a chain
  pub left : v.none ≡ false → (b a : ℕ) → b < n → a < n → Decides (leg v.left b a) ((leg t b a ≡ true) × (Closing n (Compulsory n t) b a → ⊥))
