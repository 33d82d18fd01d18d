-- A sequence of calls on the same lent words: what the results of the C functions say of the words, one call after the other.
use Rattle.std.specs.Prelude.{◌≡◌, List, [], ◌∷◌, ℕ, drop}
use Rattle.circuit.specs.declared.card.Answer.{Answer}
use Rattle.circuit.specs.declared.state.Work.{Work}
use Rattle.sheet.specs.Open.{open_call}
use Rattle.filter.specs.Calls.{hand_call, run_call}
use Rattle.cut.specs.Call.{cut_call}
use Rattle.demands.specs.Sequence.{Call, calling, running, cutting, asking, after_all}
use Rattle.loungeegret.specs.Words.{state_words, loaded, stored_in}
use Rattle.loungeegret.specs.Results.{on_state, words_after}

-- the words after an opening, as `OpenResult` says
unfoldable pub opened_words : List ℕ → List ℕ → ℕ → List ℕ
opened_words s sheet limit = on_state s s (stored_in s (open_call sheet limit).work)

-- the words after a call that answers a and hands back w, as `CallResult`, `RunResult` and, where the lent table suffices, `CutResult` say
abbrev pub words_back : List ℕ → Answer → Work → List ℕ
words_back s a w = on_state s s (words_after s a w)

-- the words after a call of a sequence
unfoldable pub words_handed : List ℕ → Call → List ℕ
words_handed s (calling r) = words_back s (hand_call (loaded s) r).answer (hand_call (loaded s) r).work
words_handed s (running budget) = words_back s (run_call (loaded s) budget).answer (run_call (loaded s) budget).work
words_handed s (cutting must) = words_back s (cut_call (loaded s) must).answer (cut_call (loaded s) must).work
words_handed s (asking q) = s

-- and after a list of calls
unfoldable pub words_all : List ℕ → List Call → List ℕ
words_all s [] = s
words_all s (c ∷ cs) = words_all (words_handed s c) cs

-- of words s that suffice for a state: after an opening and a list of calls they hold the state of demand 3's sequence, and the words
-- that follow the state are as they were
pub record InSequence (s sheet : List ℕ) (limit : ℕ) (cs : List Call) : Type 0 where
  pub state : loaded (words_all (opened_words s sheet limit) cs) ≡ after_all (open_call sheet limit).work cs
  pub rest : drop state_words (words_all (opened_words s sheet limit) cs) ≡ drop state_words s
