-- Place, mark and end of a work state in lent words. Only inner contracts cite them.
use Rattle.std.specs.Prelude.{◌≡◌, false, List, [], ◌∷◌, ℕ, eqb, get_or, take}
use Rattle.bitset.specs.Sets.{digit}
use Rattle.circuit.specs.Card.{end_code, end_of}
use Rattle.circuit.specs.declared.state.Work.{Work}
use Rattle.filter.specs.declared.cycle.Cursor.{Cursor}
use Rattle.filter.specs.inner.Steps.{state_at}
use Rattle.loungeegret.specs.declared.words.Loaded.{Loaded}
use Rattle.loungeegret.specs.Words.{out_of_range}

-- as the words say them, in range
abbrev pub cursor_of : List ℕ → Cursor
cursor_of s = record { place = get_or s 66 0; mark = eqb (get_or s 67 0) 1; end = end_of (get_or s 68 0) }

-- their words
abbrev pub cursor_words : Cursor → List ℕ
cursor_words at = at.place ∷ digit at.mark ∷ end_code at.end ∷ []

-- the state with these rows, at this place: n and the limit are those of the words
abbrev pub moved_in : List ℕ → List ℕ → Cursor → Work
moved_in s rows at = state_at (get_or s 64 0) rows (get_or s 65 0) at

-- what the words say, in range
pub record Says (parts : Loaded) (s : List ℕ) : Type 0 where
  pub range : out_of_range s ≡ false
  pub rows : parts.rows ≡ take 64 s
  pub n : parts.n ≡ get_or s 64 0
  pub limit : parts.limit ≡ get_or s 65 0
  pub at : parts.at ≡ cursor_of s
