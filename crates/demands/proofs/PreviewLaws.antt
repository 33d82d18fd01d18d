-- What is shown after any list of calls is no drivable leg of the opened table (W-207). Assumes nothing.
use mathlib.Core.Path.{◌≡◌, refl, sym, ap, ◌∙◌, subst}
use mathlib.Core.Logic.{⊎_elim}
use mathlib.Core.Bool.{true}
use mathlib.Core.List.{List}
use Prim.Native.Nat.{ℕ, ◌<◌}
use Rattle.circuit.specs.declared.card.End.TheVariants.{Stable}
use Rattle.circuit.specs.declared.state.Work.{Work}
use Rattle.circuit.specs.Card.{card}
use Rattle.circuit.specs.Legs.{leg}
use Rattle.circuit.specs.Round.{RoundOf}
use Rattle.circuit.specs.State.{rows_of}
use Rattle.sheet.specs.Open.{open_call}
use Rattle.filter.specs.declared.rule.Rule.{Rule}
use Rattle.filter.specs.Calls.{hand_call}
use Rattle.filter.specs.Leads.{Leads}
use Rattle.filter.proofs.CallLaws.{leads_on, open_none, hand_call_leads}
use Rattle.filter.proofs.StableLaws.{stable_means}
use Rattle.preview.specs.Call.{preview_call}
use Rattle.preview.specs.Claims.{shown}
use Rattle.preview.proofs.PreviewLaws.{preview_end, previews, preview_refused, unchanged_shows}
use Rattle.demands.specs.Sequence.{Call, after_all, DrivesAllGiven}
use Rattle.demands.specs.Definitions.{definitions}
use Rattle.demands.specs.Examples.{listed, begun, nine_legs, ring_of_four, butterfly, chain_of_four}
use Rattle.demands.specs.Previews.{PreviewAfter, PreviewRefused, PreviewStable, shows, only_way_in, previewed}
use Rattle.demands.proofs.DemandLaws.{all_leads, opened_open}
use Rattle.demands.proofs.StableLaws.{reached_invariant}

module _ (sheet : List ℕ) (limit : ℕ) (t : (open_call sheet limit).answer ≡ card 0) (cs : List Call) (r : Rule) where
  -- the opened state, and the one after the list
  abbrev w : Work
  w = (open_call sheet limit).work

  abbrev u : Work
  u = after_all w cs

  -- the list and then the step that is shown
  then_leads : Leads (DrivesAllGiven w cs) w (hand_call u r).work
  then_leads = leads_on (DrivesAllGiven w cs) w u (hand_call u r).work (all_leads w cs) (hand_call_leads (DrivesAllGiven w cs) u r)

  pub preview_after : PreviewAfter w cs r
  preview_after =
      record {
        previews = previews u r;
        undriven = λ i j d.
            let L = all_leads w cs in
            let round = subst (λ (n : ℕ). RoundOf n (rows_of u) d.choice) (sym L.stations) (L.rounds d.choice d.member d.round) in
            ap (leg (shown u r) i) (sym d.driven) ∙ (previews u r).undriven d.choice round i (subst (λ (n : ℕ). i < n) (sym L.stations) d.station);
        none = λ e. ⊎_elim (λ f. open_none (sym (opened_open sheet limit t) ∙ f)) (λ f. f) (then_leads.none (sym (preview_end u r) ∙ e));
      }

  pub preview_stable : u.end ≡ Stable → PreviewStable w cs
  preview_stable e s = unchanged_shows u s _ ((stable_means u (reached_invariant sheet limit t cs) e).hand s)

pub refused_previews : PreviewRefused
refused_previews = preview_refused

-- by computation
pub previewed_hold : previewed ≡ true
unfolding definitions listed begun nine_legs ring_of_four butterfly chain_of_four shows only_way_in previewed preview_call
previewed_hold = refl
