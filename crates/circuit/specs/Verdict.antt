-- What a rule says of a table.
use Rattle.std.specs.Prelude.{◌≡◌, true, false, List, ℕ, length}
use Rattle.circuit.specs.declared.verdict.Verdict.{Verdict}
use Rattle.circuit.specs.Legs.{Subtable}
use Rattle.circuit.specs.Round.{RoundOf}
use Rattle.circuit.specs.State.{stray}

-- the verdict none: the table stays
abbrev pub says_none : List ℕ → Verdict
says_none t = record { none = true; left = t }

-- not none: the table that is left
abbrev pub leaves : List ℕ → Verdict
leaves t = record { none = false; left = t }

-- what a sound verdict keeps of the table t, for a class P of rounds
pub record Sound (P : (ℕ → ℕ) → Type 0) (n : ℕ) (t : List ℕ) (v : Verdict) : Type 0 where
  -- no leg appears that was not there
  pub sub : Subtable v.left t
  -- a table of 64 words stays one, and so does one without stray legs
  pub long : length t ≡ 64 → length v.left ≡ 64
  pub clean : stray n t ≡ false → stray n v.left ≡ false
  -- where t has a round of the class, the verdict is not none and every leg of the round still stands
  pub rounds : (h : ℕ → ℕ) → P h → RoundOf n t h → (v.none ≡ false) × RoundOf n v.left h
