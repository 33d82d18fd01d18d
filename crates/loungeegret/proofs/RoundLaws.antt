-- After an opening and a list of calls, a search on the words finds the first round of the opened table (W-210). Assumes nothing.
use mathlib.Core.Path.{◌≡◌, sym, subst}
use mathlib.Core.List.{List}
use Prim.Native.Nat.{ℕ, ◌≤◌}
use lib.ListN.{length}
use Rattle.circuit.specs.declared.state.Work.{Work}
use Rattle.circuit.specs.Card.{card}
use Rattle.circuit.specs.Round.{NoneIn}
use Rattle.circuit.specs.State.{rows_of}
use Rattle.circuit.specs.Check.{choice_of}
use Rattle.sheet.specs.Open.{open_call}
use Rattle.finder.specs.declared.outcome.Outcome.TheVariants.{Found, NoRound}
use Rattle.finder.specs.Call.{first_call, first_list}
use Rattle.finder.specs.First.{First}
use Rattle.demands.specs.Sequence.{Call}
use Rattle.demands.specs.Rounds.{FirstAfter, SearchAfter}
use Rattle.demands.proofs.RoundLaws.{first_after}
use Rattle.loungeegret.specs.Words.{state_words}
use Rattle.loungeegret.specs.Sequence.{opened_words, words_all}
use Rattle.loungeegret.specs.Rounds.{FirstWords, SearchWords}
use Rattle.loungeegret.proofs.SequenceLaws.{in_sequence}

pub first_words : (s sheet : List ℕ) (limit : ℕ) → state_words ≤ length s → (open_call sheet limit).answer ≡ card 0 → (cs : List Call) (b : ℕ) (old : List ℕ)
    → length old ≡ (open_call sheet limit).work.n → SearchWords s sheet limit cs b old
first_words s sheet limit h t cs b old fits = record { list = on (F.list cs b); all_rounds = λ o. on (F.all_rounds cs b o) }
  where
    w : Work
    w = (open_call sheet limit).work

    F : SearchAfter w old
    F = first_after sheet limit t old fits

    on : {P : (ℕ → ℕ) → Type 0} → FirstAfter P w cs b old → FirstWords P w (words_all (opened_words s sheet limit) cs) b old
    on {P} f =
        let is = sym (in_sequence s sheet limit h cs).state in
        record {
          found = subst (λ (u : Work). (first_call u b old).outcome ≡ Found → First P w.n (rows_of w) (choice_of (first_list u b old))) is f.found;
          none = subst (λ (u : Work). (first_call u b old).outcome ≡ NoRound → NoneIn P w.n (rows_of w)) is f.none;
        }
