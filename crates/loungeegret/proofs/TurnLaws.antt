-- Runs in turns on the same lent words add up (W-211). Assumes nothing.
use mathlib.Core.Path.{◌≡◌, refl, sym, ap, ◌∙◌, subst}
use mathlib.Core.Logic.{⊎_elim}
use mathlib.Core.Bool.{true, false}
use mathlib.Core.List.{List, [], ◌∷◌}
use Prim.Native.Nat.{ℕ, ◌≤◌}
use lib.ListN.{length}
use Rattle.bitset.proofs.BoolLaws.{cases}
use Rattle.circuit.specs.declared.state.Work.{Work}
use Rattle.circuit.specs.State.{bad}
use Rattle.filter.specs.declared.hand.Called.{Called}
use Rattle.filter.specs.declared.cycle.Ran.{Ran}
use Rattle.filter.specs.Calls.{run_call}
use Rattle.filter.specs.Turns.{both, turns}
use Rattle.filter.proofs.HandLaws.{call_bad}
use Rattle.filter.proofs.RunLaws.{run_bad}
use Rattle.filter.proofs.TurnLaws.{run_stays, turns_sum, runs_add}
use Rattle.cut.specs.declared.CutCalled.{CutCalled}
use Rattle.cut.proofs.CallLaws.{cut_bad}
use Rattle.demands.specs.Sequence.{Call, calling, running, cutting, asking, handed}
use Rattle.demands.specs.Turns.{budgets_of, NoneByHand}
use Rattle.demands.proofs.TurnLaws.{one_run}
use Rattle.loungeegret.specs.Words.{state_words, loaded, stored_in}
use Rattle.loungeegret.specs.Results.{words_after}
use Rattle.loungeegret.specs.Sequence.{words_back, words_handed, words_all}
use Rattle.loungeegret.specs.Turns.{turns_on, TurnsAdd}
use Rattle.loungeegret.proofs.SequenceLaws.{Holds, on_state_lem, lent_holds, holds_words, handed_holds, all_hold}

-- ---- what runs hand back together

-- turns on the words are turns on the states that they hold
turns_on_lem : (o s : List ℕ) (r : Ran) (bs : List ℕ) → Holds o s r.work → turns_on s r bs ≡ turns r bs
unfolding turns_on turns handed
turns_on_lem o s r [] H = refl
turns_on_lem o s r (b ∷ bs) H =
    let holds = handed_holds o s (loaded s) (subst (Holds o s) (sym H.is) H) (running b) in
    turns_on_lem o (words_handed s (running b)) (both r (run_call (loaded s) b)) bs holds ∙ ap (λ (w : Work). turns (both r (run_call w b)) bs) H.is

-- ---- the words

-- no call changes words that say a bad state
bad_handed : (s : List ℕ) → bad (loaded s) ≡ true → state_words ≤ length s → (c : Call) → words_handed s c ≡ s
unfolding words_handed words_after
bad_handed s e h (calling r) = ap (λ (c : Called). words_back s c.answer c.work) (sym (call_bad (loaded s) r e)) ∙ on_state_lem s s s h
bad_handed s e h (running budget) = ap (λ (r : Ran). words_back s r.answer r.work) (run_bad (loaded s) budget e) ∙ on_state_lem s s s h
bad_handed s e h (cutting must) = ap (λ (c : CutCalled). words_back s c.answer c.work) (sym (cut_bad (loaded s) must e)) ∙ on_state_lem s s s h
bad_handed s e h (asking q) = refl

bad_all : (s : List ℕ) → bad (loaded s) ≡ true → state_words ≤ length s → (cs : List Call) → words_all s cs ≡ s
unfolding words_all
bad_all s e h [] = refl
bad_all s e h (c ∷ cs) = ap (λ (x : List ℕ). words_all x cs) (bad_handed s e h c) ∙ bad_all s e h cs

module _ (s : List ℕ) (h : state_words ≤ length s) where
  abbrev w : Work
  w = loaded s

  held : Holds s s w
  held = lent_holds s h

  -- after calls of which none is by hand the words hold what one run hands back
  run_holds : (cs : List Call) → NoneByHand cs → Holds s (words_all s cs) (run_call w (budgets_of cs)).work
  run_holds cs none = subst (Holds s (words_all s cs)) (one_run w cs none) (all_hold s s w held cs)

  -- both hold the same state, and are its words where it is not bad
  words : (cs : List Call) → NoneByHand cs → words_all s cs ≡ words_handed s (running (budgets_of cs))
  unfolding handed
  words cs none =
      let b = budgets_of cs in
      let of : (x : List ℕ) → Holds s x (run_call w b).work → bad w ≡ false → x ≡ stored_in s (run_call w b).work = λ x H e. holds_words s x (run_call w b).work H (run_stays w b ∙ e) in
      ⊎_elim (λ e. bad_all s e h cs ∙ sym (bad_handed s e h (running b)))
      (λ e. of (words_all s cs) (run_holds cs none) e ∙ sym (of (words_handed s (running b)) (handed_holds s s w held (running b)) e))
      (cases (bad w))

  pub turns_add : TurnsAdd s
  unfolding handed words_all budgets_of
  turns_add =
      record {
        words = words;
        counts = λ a bs. turns_on_lem s (words_handed s (running a)) (run_call w a) bs (handed_holds s s w held (running a)) ∙ turns_sum w a bs;
        nothing = sym (words [] tt);
        checks = λ cs none b. ap (λ (u : Work). (run_call u b).answer) (run_holds cs none).is ∙ ((runs_add w).checks (budgets_of cs) b).1;
      }
