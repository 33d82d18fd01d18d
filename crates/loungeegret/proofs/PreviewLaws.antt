-- On the same lent words the step does what the preview showed (W-207). Assumes nothing.
use mathlib.Core.Path.{◌≡◌, sym, ap, ◌∙◌}
use mathlib.Core.Logic.{⊎_elim}
use mathlib.Core.Bool.{Bool, true, false, not, ◌&&◌, and-true}
use mathlib.Core.List.{List}
use Prim.Native.Nat.{ℕ, ◌≤◌}
use lib.ListN.{get_or, length}
use Rattle.bitset.specs.Sets.{has}
use Rattle.bitset.proofs.BoolLaws.{cases, is_false, not_both, cond_true, cond_false}
use Rattle.circuit.specs.declared.state.Work.{Work}
use Rattle.circuit.specs.Card.{end_code}
use Rattle.circuit.specs.Legs.{leg, no_legs}
use Rattle.circuit.specs.Round.{All}
use Rattle.circuit.specs.State.{rows_of, bad}
use Rattle.circuit.proofs.DifferenceLaws.{no_leg}
use Rattle.filter.specs.declared.rule.Rule.{Rule}
use Rattle.filter.specs.declared.hand.Called.{Called}
use Rattle.filter.specs.Calls.{hand_call}
use Rattle.filter.proofs.CallLaws.{hand_call_leads}
use Rattle.filter.proofs.HandLaws.{call_bad}
use Rattle.preview.specs.declared.Previewed.{Previewed}
use Rattle.preview.specs.Call.{preview_call}
use Rattle.preview.specs.Claims.{shown, then_called}
use Rattle.preview.proofs.PreviewLaws.{preview_answer, preview_end, preview_refused, previews}
use Rattle.demands.specs.Sequence.{calling}
use Rattle.loungeegret.specs.Words.{state_words, loaded, stored_in}
use Rattle.loungeegret.specs.Results.{refuses, words_after, shown_end}
use Rattle.loungeegret.specs.Sequence.{words_handed}
use Rattle.loungeegret.specs.Previews.{PreviewWords}
use Rattle.loungeegret.proofs.WordsLaws.{loaded_long, stored_row, stored_end}
use Rattle.loungeegret.proofs.SequenceLaws.{on_state_lem, lent_holds, holds_words, refusal}

module _ (s : List ℕ) (h : state_words ≤ length s) (r : Rule) where
  abbrev w : Work
  w = loaded s

  abbrev called : Called
  called = hand_call w r

  -- the words after the step
  abbrev after : List ℕ
  after = words_handed s (calling r)

  -- ---- refused: they stay, and nothing is shown

  module _ (e : refuses called.answer ≡ true) where
    kept : after ≡ s
    unfolding words_handed words_after
    kept = on_state_lem s s (words_after s called.answer called.work) h ∙ cond_true s (stored_in s called.work) e

    nothing : shown w r ≡ no_legs
    nothing = ap (λ (p : Previewed). p.legs.rows) (preview_refused w r (λ q. refusal called.answer e (sym (preview_answer w r) ∙ q)))

    refused_words : PreviewWords s r
    unfolding shown_end
    refused_words =
        record {
          rows = λ i j _ _. ap (λ (x : List ℕ). leg x i j) kept ∙ sym (ap (λ (b : Bool). leg s i j && not b) (ap (λ (t : List ℕ). leg t i j) nothing ∙ no_leg i j) ∙ and-true (leg s i j));
          end = ap (λ (x : List ℕ). get_or x 68 0) kept ∙ sym (cond_true (get_or s 68 0) (end_code (preview_call w r).end) (ap refuses (preview_answer w r) ∙ e));
        }

  -- ---- taken: they hold the state that is handed back, and held the given one

  module _ (e : refuses called.answer ≡ false) where
    put : after ≡ stored_in s called.work
    unfolding words_handed words_after
    put = on_state_lem s s (words_after s called.answer called.work) h ∙ cond_false s (stored_in s called.work) e

    good : bad w ≡ false
    good = is_false (bad w) (λ b. not_both (ap (λ (c : Called). refuses c.answer) (sym (call_bad w r b))) e)

    long : length (rows_of called.work) ≡ 64
    long = (hand_call_leads All w r).long (loaded_long s h)

    -- the step on the state that the preview handed back is the one on the given state
    same_step : (i j : ℕ) → leg (rows_of called.work) i j ≡ leg (rows_of (then_called w r).work) i j
    same_step i j = ap (λ (u : Work). leg (rows_of (hand_call u r).work) i j) (sym (previews w r).given)

    taken_words : PreviewWords s r
    unfolding shown_end leg
    taken_words =
        record {
          rows = λ i j li lj.
              ap (λ (x : List ℕ). leg x i j) put ∙ ap (λ (x : ℕ). has x j) (stored_row called.work long s i li)
              ∙ same_step i j ∙ (previews w r).strikes i j li lj
              ∙ ap (λ (b : Bool). b && not (leg (shown w r) i j)) (ap (λ (x : ℕ). has x j) (sym (stored_row w (loaded_long s h) s i li)) ∙ ap (λ (x : List ℕ). leg x i j) (sym (holds_words s s w (lent_holds s h) good)));
          end = ap (λ (x : List ℕ). get_or x 68 0) put ∙ stored_end called.work long s ∙ ap end_code (sym (preview_end w r))
              ∙ sym (cond_false (get_or s 68 0) (end_code (preview_call w r).end) (ap refuses (preview_answer w r) ∙ e));
        }

  pub preview_words : PreviewWords s r
  preview_words = ⊎_elim refused_words taken_words (cases (refuses called.answer))
