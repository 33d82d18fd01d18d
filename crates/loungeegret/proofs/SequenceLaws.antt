-- A sequence of C calls on the same lent words is the sequence of calls of demand 3. Assumes nothing.
use mathlib.Core.Path.{◌≡◌, refl, sym, ap, ap₂, ◌∙◌, subst}
use mathlib.Core.Logic.{⊎_elim}
use mathlib.Core.Bool.{true, false}
use mathlib.Core.List.{List, [], ◌∷◌, ◌++◌}
use Prim.Native.Nat.{ℕ, ◌≤◌}
use native.Mathlib.Omega.{arith}
use lib.ListN.{length, drop, length-append}
use lib.Seq.{drop_at}
use borrow.Author.Tests.{le-ltb}
use Rattle.bitset.proofs.BoolLaws.{cases, not_both, is_false, cond_true, cond_false}
use Rattle.circuit.specs.declared.card.Answer.{Answer}
use Rattle.circuit.specs.declared.state.Work.{Work}
use Rattle.circuit.specs.State.{rows_of, bad}
use Rattle.sheet.specs.Open.{open_call}
use Rattle.sheet.proofs.GrammarLaws.{opened_long}
use Rattle.filter.specs.declared.hand.Called.{Called}
use Rattle.filter.specs.declared.cycle.Ran.{Ran}
use Rattle.filter.specs.Calls.{hand_call, run_call}
use Rattle.circuit.specs.Round.{All}
use Rattle.filter.proofs.CallLaws.{hand_call_leads, run_call_leads}
use Rattle.filter.proofs.HandLaws.{hand_refused}
use Rattle.cut.specs.declared.CutCalled.{CutCalled}
use Rattle.cut.specs.Call.{cut_call}
use Rattle.cut.proofs.CallLaws.{cut_refused, cut_leads}
use Rattle.demands.specs.Sequence.{Call, calling, running, cutting, asking, handed, after_all}
use Rattle.demands.specs.Demands.{Refusal}
use Rattle.demands.proofs.RefusalLaws.{run_refused}
use Rattle.loungeegret.specs.Words.{state_words, out_of_range, loaded, stored, stored_in}
use Rattle.loungeegret.specs.Results.{on_state, refuses, words_after}
use Rattle.loungeegret.specs.Sequence.{opened_words, words_back, words_handed, words_all, InSequence}
use Rattle.loungeegret.proofs.WordsLaws.{length_stored, loaded_stored, loaded_long, stored_loaded, out_of_range_bad}

-- words that suffice are written
pub on_state_lem : {A : Type 0} (s : List ℕ) (x y : A) → state_words ≤ length s → on_state s x y ≡ y
unfolding on_state
on_state_lem s x y h = cond_false x y (le-ltb (length s) state_words h)

-- the words s hold the state w, and after it what the words o have
pub record Holds (o s : List ℕ) (w : Work) : Type 0 where
  pub enough : state_words ≤ length s
  pub is : loaded s ≡ w
  pub long : length (rows_of w) ≡ 64
  pub rest : drop state_words s ≡ drop state_words o

-- words that suffice hold the state that they say
pub lent_holds : (s : List ℕ) → state_words ≤ length s → Holds s s (loaded s)
lent_holds s h = record { enough = h; is = refl; long = loaded_long s h; rest = refl }

-- where that state is not bad, they are in range
pub holds_range : (o s : List ℕ) (w : Work) → Holds o s w → bad w ≡ false → out_of_range s ≡ false
holds_range o s w H e = is_false (out_of_range s) (λ out. not_both (out_of_range_bad s out) (ap bad H.is ∙ e))

-- and are its words
pub holds_words : (o s : List ℕ) (w : Work) → Holds o s w → bad w ≡ false → s ≡ stored_in o w
unfolding stored_in
holds_words o s w H e =
    sym (stored_loaded s H.enough (holds_range o s w H e)) ∙ ap₂ (λ (u : Work) (x : List ℕ). stored u ++ x) H.is H.rest

-- a state that is stored
pub stored_holds : (o s : List ℕ) (w : Work) → drop state_words s ≡ drop state_words o → length (rows_of w) ≡ 64 → Holds o (stored_in s w) w
unfolding stored_in
stored_holds o s w r long =
    let size = length_stored w long in
    record {
      enough = omega (arith, length-append (stored w) (drop state_words s), size);
      is = loaded_stored w long (drop state_words s);
      long = long;
      rest = drop_at (stored w) (drop state_words s) state_words size ∙ r;
    }

back_holds : (o s : List ℕ) (w : Work) → Holds o s w → (a : Answer) (u : Work) → (refuses a ≡ true → u ≡ w) → length (rows_of u) ≡ 64 → Holds o (words_back s a u) u
unfolding words_after
back_holds o s w H a u same long = ⊎_elim kept put (cases (refuses a))
  where
    kept : refuses a ≡ true → Holds o (words_back s a u) u
    kept e = subst (λ (x : List ℕ). Holds o x u) (sym (on_state_lem s s (words_after s a u) H.enough ∙ cond_true s (stored_in s u) e)) (subst (Holds o s) (sym (same e)) H)

    put : refuses a ≡ false → Holds o (words_back s a u) u
    put e = subst (λ (x : List ℕ). Holds o x u) (sym (on_state_lem s s (words_after s a u) H.enough ∙ cond_false s (stored_in s u) e)) (stored_holds o s u H.rest long)

-- the answer of a refused call is a refusal
pub refusal : (a : Answer) → refuses a ≡ true → Refusal a
refusal a e q = not_both e (ap refuses q)

pub handed_holds : (o s : List ℕ) (w : Work) → Holds o s w → (c : Call) → Holds o (words_handed s c) (handed w c)
unfolding words_handed handed
handed_holds o s w H (calling r) =
    subst (λ (v : Work). Holds o (words_back s (hand_call v r).answer (hand_call v r).work) (hand_call w r).work) (sym H.is)
    (back_holds o s w H (hand_call w r).answer (hand_call w r).work
    (λ e. ap (λ (c : Called). c.work) (hand_refused w r (refusal (hand_call w r).answer e))) ((hand_call_leads All w r).long H.long))
handed_holds o s w H (running budget) =
    subst (λ (v : Work). Holds o (words_back s (run_call v budget).answer (run_call v budget).work) (run_call w budget).work) (sym H.is)
    (back_holds o s w H (run_call w budget).answer (run_call w budget).work
    (λ e. ap (λ (c : Ran). c.work) (run_refused w budget (refusal (run_call w budget).answer e))) ((run_call_leads All w budget).long H.long))
handed_holds o s w H (cutting must) =
    subst (λ (v : Work). Holds o (words_back s (cut_call v must).answer (cut_call v must).work) (cut_call w must).work) (sym H.is)
    (back_holds o s w H (cut_call w must).answer (cut_call w must).work
    (λ e. ap (λ (c : CutCalled). c.work) (cut_refused w must (refusal (cut_call w must).answer e))) ((cut_leads w must).long H.long))
handed_holds o s w H (asking q) = H

pub all_hold : (o s : List ℕ) (w : Work) → Holds o s w → (cs : List Call) → Holds o (words_all s cs) (after_all w cs)
unfolding words_all after_all
all_hold o s w H [] = H
all_hold o s w H (c ∷ cs) = all_hold o (words_handed s c) (handed w c) (handed_holds o s w H c) cs

-- after an opening and a list of calls
pub opened_hold : (s sheet : List ℕ) (limit : ℕ) → state_words ≤ length s → (cs : List Call) → Holds s (words_all (opened_words s sheet limit) cs) (after_all (open_call sheet limit).work cs)
unfolding opened_words
opened_hold s sheet limit h cs =
    let w = (open_call sheet limit).work in
    let begun : Holds s (opened_words s sheet limit) w =
    subst (λ (x : List ℕ). Holds s x w) (sym (on_state_lem s s (stored_in s w) h)) (stored_holds s s w refl (opened_long sheet limit)) in
    all_hold s (opened_words s sheet limit) w begun cs

pub in_sequence : (s sheet : List ℕ) (limit : ℕ) → state_words ≤ length s → (cs : List Call) → InSequence s sheet limit cs
in_sequence s sheet limit h cs = let H = opened_hold s sheet limit h cs in record { state = H.is; rest = H.rest }
