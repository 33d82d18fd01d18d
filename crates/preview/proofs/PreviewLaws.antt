-- What a preview shows is what the step then does. Assumes nothing.
use mathlib.Core.Path.{◌≡◌, refl, sym, ap, ◌∙◌}
use mathlib.Core.Logic.{⊎_elim}
use mathlib.Core.Bool.{true, false}
use mathlib.Core.List.{List}
use Prim.Native.Nat.{ℕ}
use native.Mathlib.Omega.{arith}
use Rattle.bitset.proofs.BoolLaws.{cases, is_false, not_both}
use Rattle.circuit.specs.declared.card.Answer.{Answer}
use Rattle.circuit.specs.declared.card.Answer.TheVariants.{Taken}
use Rattle.circuit.specs.declared.state.Work.{Work}
use Rattle.circuit.specs.Legs.{no_legs, difference, legs}
use Rattle.circuit.specs.Round.{All}
use Rattle.circuit.specs.State.{rows_of, bad}
use Rattle.circuit.proofs.DifferenceLaws.{difference_left, difference_sub, difference_apart, difference_self, legs_difference, legs_none}
use Rattle.circuit.proofs.StateLaws.{good}
use Rattle.filter.specs.declared.rule.Rule.{Rule}
use Rattle.filter.specs.declared.hand.Called.{Called}
use Rattle.filter.specs.Calls.{unchanged, hand_call}
use Rattle.filter.specs.Leads.{Leads}
use Rattle.filter.proofs.CallLaws.{hand_call_leads}
use Rattle.filter.proofs.HandLaws.{call_bad, hand_refused}
use Rattle.filter.proofs.RemovalLaws.{hand_removed}
use Rattle.preview.specs.declared.Previewed.{Previewed}
use Rattle.preview.specs.Call.{preview_call, shows_nothing}
use Rattle.preview.specs.Claims.{shown, Previews}

-- what is kept of the step, with the legs that it strikes
abbrev of_call : Work → Called → List ℕ → Previewed
of_call w c t = record { answer = c.answer; work = w; legs = record { rows = t }; end = c.work.end }

pub preview_is : (w : Work) (r : Rule) (c : Called) (t : List ℕ) → c ≡ hand_call w r → t ≡ difference (rows_of w) (rows_of c.work) → of_call w c t ≡ preview_call w r
unfolding preview_call
preview_is w r c t e d = ap (of_call w c) d ∙ ap (λ (x : Called). of_call w x (difference (rows_of w) (rows_of x.work))) e

module _ (w : Work) (r : Rule) where
  -- the answer and the end are those of the step
  pub preview_answer : (preview_call w r).answer ≡ (hand_call w r).answer
  unfolding preview_call
  preview_answer = refl

  pub preview_end : (preview_call w r).end ≡ (hand_call w r).work.end
  unfolding preview_call
  preview_end = refl

  -- a step that hands back the given state shows nothing
  pub unchanged_shows : (a : Answer) → hand_call w r ≡ unchanged a w → preview_call w r ≡ shows_nothing a w
  unchanged_shows a e = sym (preview_is w r (unchanged a w) no_legs (sym e) (sym (difference_self (rows_of w))))

  pub preview_refused : ((preview_call w r).answer ≡ Taken → ⊥) → preview_call w r ≡ shows_nothing (preview_call w r).answer w
  unfolding preview_call
  preview_refused h = unchanged_shows (hand_call w r).answer (hand_refused w r h)

  leads : Leads All w (hand_call w r).work
  leads = hand_call_leads All w r

  -- as many legs are shown as the step removes
  pub shown_removed : (hand_call w r).removed ≡ legs w.n (shown w r)
  unfolding preview_call
  shown_removed = ⊎_elim refuses taken (cases (bad w))
    where
      refuses : bad w ≡ true → (hand_call w r).removed ≡ legs w.n (difference (rows_of w) (rows_of (hand_call w r).work))
      refuses e = ap (λ (c : Called). c.removed) (sym (call_bad w r e)) ∙ sym (legs_none w.n)
          ∙ ap (legs w.n) (sym (difference_self (rows_of w)) ∙ ap (λ (c : Called). difference (rows_of w) (rows_of c.work)) (call_bad w r e))

      taken : bad w ≡ false → (hand_call w r).removed ≡ legs w.n (difference (rows_of w) (rows_of (hand_call w r).work))
      taken e = omega (arith, hand_removed w r, legs_difference (rows_of w) (rows_of (hand_call w r).work) w.n (good w e).most leads.sub)

  pub previews : Previews w r
  unfolding preview_call
  previews =
      record {
        given = refl;
        again = refl;
        answer = refl;
        strikes = difference_left (rows_of w) (rows_of (hand_call w r).work) leads.sub;
        stood = difference_sub (rows_of w) (rows_of (hand_call w r).work);
        removed = shown_removed;
        ends = refl;
        refused = preview_refused;
        undriven = λ h d i l. is_false _ (λ e. not_both ((leads.rounds h tt d).drives i l) (difference_apart (rows_of w) (rows_of (hand_call w r).work) i (h i) e));
        none = λ o e. ⊎_elim (λ f. absurd (o f)) (λ f. f) (leads.none e);
      }
