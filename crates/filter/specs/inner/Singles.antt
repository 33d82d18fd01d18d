-- What is gathered of the rows: which stations have no leg or one leg only, out and in; and what the sweep makes of it.
use Rattle.std.specs.Prelude.{◌≡◌, Bool, not, cond, ◌&&◌, List, ℕ, ◌<◌, eqb}
use Rattle.std.specs.Int.Count.{ones}
use Rattle.bitset.specs.Sets.{has, any}
use Rattle.bitset.specs.Upto.{row}
use Rattle.filter.specs.declared.singles.Singles.{Singles}

-- the word has one member only
abbrev pub single : ℕ → Bool
single w = eqb (ones w) 1

-- row k has the member j
abbrev pub holds : List ℕ → ℕ → ℕ → Bool
holds t j k = has (row t k) j

-- row k has the member j and no other
abbrev pub only : List ℕ → ℕ → ℕ → Bool
only t j k = has (cond (single (row t k)) (row t k) 0) j

-- two numbers below n pass
abbrev pub two : ℕ → (ℕ → Bool) → Bool
two n p = any n (λ k. p k && any k p)

-- of the rows below n
pub record SinglesOf (n : ℕ) (t : List ℕ) (r : Singles) : Type 0 where
  -- some row is empty
  pub empty : r.empty ≡ any n (λ k. eqb (row t k) 0)
  -- the members of some row, and of two rows
  pub reached : (j : ℕ) → j < 64 → has r.reached j ≡ any n (holds t j)
  pub again : (j : ℕ) → j < 64 → has r.again j ≡ two n (holds t j)
  -- the same of the rows with one member only
  pub once : (j : ℕ) → j < 64 → has r.once j ≡ any n (only t j)
  pub twice : (j : ℕ) → j < 64 → has r.twice j ≡ two n (only t j)

-- station j has one leg in
abbrev pub sole_in : Singles → ℕ → Bool
sole_in r j = has r.reached j && not (has r.again j)

-- what is left of a row: without the members of other rows that are their only ones; and, where the station has the only leg into some station,
-- with no other leg than that one. `own` has the stations with no other leg in than from here
abbrev pub keeps : Singles → ℕ → ℕ → ℕ → Bool
keeps next own row j = not (cond (single row) (has next.twice j) (has next.once j)) && cond (single own) (has own j) (eqb own 0)
