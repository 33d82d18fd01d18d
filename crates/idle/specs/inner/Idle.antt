-- Passes that leave the table as it is.
use Rattle.std.specs.Prelude.{◌≡◌, true, List, ℕ, leb}
use Rattle.bitset.specs.Sets.{size}
use Rattle.bitset.specs.Upto.{Each}
use Rattle.circuit.specs.Verdict.{leaves}
use Rattle.separator.specs.Level.{level}

-- the rule of each level of the list within the limit leaves the table as it is
abbrev pub Idle : ℕ → List ℕ → ℕ → List ℕ → Type 0
Idle n t limit ss = Each (λ (s : ℕ). leb (size n s) limit ≡ true → level n t s ≡ leaves t) ss
