-- What a stable end means for the lent words (W-212).
use Rattle.std.specs.Prelude.{◌≡◌, false, List, [], ◌∷◌, ℕ, ◌+◌, ◌≤◌}
use Rattle.std.proofs.lemmas.List.Edits.{sets}
use Rattle.bitset.specs.Sets.{digit}
use Rattle.circuit.specs.Card.{ending, end_code}
use Rattle.filter.specs.declared.rule.Rule.{Rule}
use Rattle.filter.specs.Stable.{anew, StableMeans}
use Rattle.demands.specs.Sequence.{calling, running}
use Rattle.loungeegret.specs.Words.{loaded}
use Rattle.loungeegret.specs.Sequence.{words_handed}

-- the words opened anew: place 0, the mark clear, the end open
abbrev pub anew_words : List ℕ → List ℕ
anew_words s = sets s 66 (0 ∷ digit false ∷ end_code (ending "open") ∷ [])

-- of lent words that say a state whose end is stable
pub record StableWords (s : List ℕ) : Type 0 where
  -- the numbers, removals and steps
  pub means : StableMeans (loaded s)
  -- no sweep, chain step or pass by hand changes a word, and no run
  pub hand : (r : Rule) → words_handed s (calling r) ≡ s
  pub run : (budget : ℕ) → words_handed s (running budget) ≡ s
  -- opened anew they say the state opened anew, and a run of one cycle or more leaves the same words
  pub opened : loaded (anew_words s) ≡ anew (loaded s)
  pub again : (budget : ℕ) → (loaded s).n + 2 ≤ budget → words_handed (anew_words s) (running budget) ≡ s
