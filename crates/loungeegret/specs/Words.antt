-- A work state in words that the caller lends: the 64 rows of the table, then n, the limit, the place, the mark and the end.
use Rattle.std.specs.Prelude.{Bool, cond, ◌||◌, List, [], ◌∷◌, ◌++◌, ℕ, eqb, ltb, get_or, length, take, drop}
use Rattle.bitset.specs.Sets.{digit}
use Rattle.circuit.specs.declared.state.Work.{Work}
use Rattle.circuit.specs.Card.{end_code, end_of}
use Rattle.circuit.specs.State.{rows_of, state, blank}

-- the number of words in a state
abbrev pub state_words : ℕ
state_words = 69

-- too few words for a state
abbrev pub too_few : List ℕ → Bool
too_few s = ltb (length s) state_words

-- the mark is neither 0 nor 1, or no end has the number
abbrev pub out_of_range : List ℕ → Bool
out_of_range s = ltb 1 (get_or s 67 0) || ltb 2 (get_or s 68 0)

-- the work state that the words say; out of range, the blank state, which is bad
unfoldable pub loaded : List ℕ → Work
loaded s =
    let said = state (get_or s 64 0) (take 64 s) (get_or s 65 0) (get_or s 66 0) (eqb (get_or s 67 0) 1) (end_of (get_or s 68 0)) in
    cond (out_of_range s) blank said

-- the words that follow the rows
abbrev pub fields : Work → List ℕ
fields w = w.n ∷ w.limit ∷ w.place ∷ digit w.mark ∷ end_code w.end ∷ []

-- the words of the work state
unfoldable pub stored : Work → List ℕ
stored w = rows_of w ++ fields w

-- the lent words with the work state at their start: words after it keep their contents
unfoldable pub stored_in : List ℕ → Work → List ℕ
stored_in s w = stored w ++ drop state_words s
