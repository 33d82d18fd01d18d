-- After an opening and a list of calls, no step by hand changes a word where the end is stable (W-212). Assumes nothing.
use mathlib.Core.Path.{◌≡◌, refl, sym, ap, ◌∙◌, subst}
use mathlib.Core.Bool.{false}
use mathlib.Core.List.{List}
use Prim.Native.Nat.{ℕ, ◌≤◌}
use native.Mathlib.Omega.{arith}
use lib.ListN.{length, take, take-append-drop}
use lib.Seq.{length-take-le}
use Rattle.bitset.specs.Sets.{digit}
use Rattle.circuit.specs.declared.card.Answer.{Answer}
use Rattle.circuit.specs.declared.card.End.TheVariants.{Open, Stable}
use Rattle.circuit.specs.declared.state.Work.{Work}
use Rattle.circuit.specs.Card.{card}
use Rattle.circuit.specs.State.{bad}
use Rattle.circuit.proofs.StateLaws.{not_bad}
use Rattle.sheet.specs.Open.{open_call}
use Rattle.filter.specs.declared.hand.Called.{Called}
use Rattle.filter.specs.declared.cycle.Ran.{Ran}
use Rattle.filter.specs.declared.cycle.Cursor.{Cursor}
use Rattle.filter.specs.Calls.{run_call}
use Rattle.filter.specs.Stable.{anew, StableMeans}
use Rattle.demands.specs.Sequence.{Call, running, handed, after_all}
use Rattle.demands.proofs.StableLaws.{reached_invariant, stable_after}
use Rattle.loungeegret.specs.Words.{state_words, out_of_range, loaded, stored_in}
use Rattle.loungeegret.specs.Results.{words_after}
use Rattle.loungeegret.specs.Sequence.{opened_words, words_back, words_handed, words_all}
use Rattle.loungeegret.specs.Stable.{anew_words, StableWords}
use Rattle.loungeegret.proofs.SequenceLaws.{Holds, on_state_lem, lent_holds, holds_range, holds_words, stored_holds, handed_holds, opened_hold}
use Rattle.loungeegret.proofs.WordsLaws.{loaded_long, stored_loaded, same_words, stores_parts, loaded_parts}

-- of words that say a state which is not bad
module _ (s : List ℕ) (h : state_words ≤ length s) (good : bad (loaded s) ≡ false) where
  abbrev w : Work
  w = loaded s

  range : out_of_range s ≡ false
  range = holds_range s s w (lent_holds s h) good

  -- a call that hands back the state leaves the words, taken or refused
  same_back : (a : Answer) → words_back s a w ≡ s
  same_back a = on_state_lem s s (words_after s a w) h ∙ same_words s a h range

  -- opened anew they hold the state opened anew
  anew_holds : Holds s (anew_words s) (anew w)
  unfolding digit
  anew_holds =
      let at : Cursor = record { place = 0; mark = false; end = Open } in
      let is : anew_words s ≡ stored_in s (anew w) =
      ap (λ (x : List ℕ). anew_words x) (sym (take-append-drop 64 s)) ∙ stores_parts s (take 64 s) at h (length-take-le 64 s (omega arith))
      ∙ ap (λ (u : Work). stored_in s (anew u)) (loaded_parts s range) in
      subst (λ (x : List ℕ). Holds s x (anew w)) (sym is) (stored_holds s s (anew w) refl (loaded_long s h))

  -- where a run from there hands back the state, it leaves the words
  anew_words_lem : (budget : ℕ) → (run_call (anew w) budget).work ≡ w → words_handed (anew_words s) (running budget) ≡ s
  unfolding handed
  anew_words_lem budget e =
      let ran : Holds s (words_handed (anew_words s) (running budget)) w = subst (Holds s _) e (handed_holds s (anew_words s) (anew w) anew_holds (running budget)) in
      holds_words s _ w ran good ∙ stored_loaded s h range

pub stable_words : (s sheet : List ℕ) (limit : ℕ) → state_words ≤ length s → (open_call sheet limit).answer ≡ card 0 → (cs : List Call)
    → (loaded (words_all (opened_words s sheet limit) cs)).end ≡ Stable → StableWords (words_all (opened_words s sheet limit) cs)
unfolding words_handed
stable_words s sheet limit h t cs e =
    let x = words_all (opened_words s sheet limit) cs in
    let v = after_all (open_call sheet limit).work cs in
    let H = opened_hold s sheet limit h cs in
    let good : bad (loaded x) ≡ false = ap bad H.is ∙ not_bad v (reached_invariant sheet limit t cs).good in
    let M : StableMeans (loaded x) = subst StableMeans (sym H.is) (stable_after sheet limit t cs (ap (λ (w : Work). w.end) (sym H.is) ∙ e)).means in
    record {
      means = M;
      hand = λ r. ap (λ (c : Called). words_back x c.answer c.work) (M.hand r) ∙ same_back x H.enough good _;
      run = λ budget. ap (λ (c : Ran). words_back x c.answer c.work) (M.run budget) ∙ same_back x H.enough good _;
      opened = (anew_holds x H.enough good).is;
      again = λ budget l. anew_words_lem x H.enough good budget (ap (λ (c : Ran). c.work) (M.again budget l));
    }
