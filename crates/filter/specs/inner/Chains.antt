-- What the functions of the chain step promise each other. p is the list of the next stations of the words that are walked.
use Rattle.std.specs.Prelude.{◌≡◌, Bool, true, false, cond, not, ◌&&◌, ◌||◌, List, ℕ, pred, ◌<◌, ltb, Option, MatchOption}
use Rattle.std.specs.Int.Bits.{bit_and}
use Rattle.bitset.specs.Sets.{has, any}
use Rattle.bitset.specs.Upto.{upto, row}
use Rattle.circuit.specs.Legs.{columns}
use Rattle.filter.specs.Chain.{forked, joined}
use Rattle.filter.specs.declared.chaining.CompulsoryLegs.{CompulsoryLegs}
use Rattle.filter.specs.inner.Singles.{single}

-- the compulsory legs of a row: its only leg, or those to a station that has no other leg in
abbrev pub compulsory_word : ℕ → ℕ → ℕ
compulsory_word word sole = cond (single word) word (bit_and word sole)

-- of the first n rows
abbrev pub compulsory_words : ℕ → List ℕ → ℕ → List ℕ
compulsory_words n rows sole = upto 64 (λ i. cond (ltb i n) (compulsory_word (row rows i) sole) 0)

-- m is the table of the compulsory legs, of which no two leave or enter one station
pub record CompulsoryOf (n : ℕ) (m : List ℕ) (r : CompulsoryLegs) (words : List ℕ) : Type 0 where
  pub unforked : forked n m ≡ false
  pub legs : words ≡ columns n m
  -- the stations that one leaves, and those that one enters
  pub leave : (k : ℕ) → k < 64 → has r.leave k ≡ ltb 0 (row m k)
  pub enter : (k : ℕ) → k < 64 → has r.enter k ≡ ltb 0 (row (columns n m) k)

-- they are told where no two leave or enter one station
abbrev pub CompulsoryTold : ℕ → List ℕ → Option CompulsoryLegs → List ℕ → Type 0
CompulsoryTold n m r words = MatchOption r (forked n m ≡ true) (λ legs. CompulsoryOf n m legs words)

-- the leg b→a is in the word of b, an end
abbrev pub closed : ℕ → List ℕ → ℕ → ℕ → Bool
closed ends words b a = has ends b && has (row words b) a

-- of the ends of the chains
pub record ChainsOf (n : ℕ) (p : List ℕ) (into ends : ℕ) (words : List ℕ) (r : ℕ) : Type 0 where
  -- the stations without a leg in that n - 2 legs at most lead to
  pub closing : (b a : ℕ) → b < n → a < n → closed ends words b a ≡ has ends b && joined n p (pred (pred n)) b a && not (has into a)
  -- the ends, and all that n - 2 legs at most lead to
  pub met : (a : ℕ) → a < n → has r a ≡ has ends a || any n (λ b. has ends b && joined n p (pred (pred n)) b a)

-- 1 to n - 1 legs lead from a station of the set back to it; of one station, if there is one
pub record ShortLoop (n : ℕ) (p : List ℕ) (set : ℕ) (r : Bool) : Type 0 where
  pub empty : set ≡ 0 → r ≡ false
  pub some : 0 < set → (a : ℕ) × (a < n) × (has set a ≡ true) × (r ≡ joined n p (pred n) a a)
