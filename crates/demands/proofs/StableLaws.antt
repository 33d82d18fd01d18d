-- A stable end means that no rule strikes anything more, after any list of calls (W-212). Assumes nothing.
use mathlib.Core.Path.{◌≡◌, sym, ap, ◌∙◌, subst}
use mathlib.Core.List.{List, [], ◌∷◌}
use Prim.Native.Nat.{ℕ, ◌+◌, ◌≤◌}
use Rattle.circuit.specs.declared.card.End.TheVariants.{Stable}
use Rattle.circuit.specs.declared.state.Work.{Work}
use Rattle.circuit.specs.Card.{card}
use Rattle.circuit.specs.State.{rows_of, fresh}
use Rattle.sheet.specs.declared.Opened.{Opened}
use Rattle.sheet.specs.Open.{open_call}
use Rattle.sheet.specs.Write.{sheet_of}
use Rattle.sheet.proofs.GrammarLaws.{taken_sheet, opened_good, opened_long}
use Rattle.filter.specs.Calls.{run_call}
use Rattle.filter.specs.Stable.{anew, CycleInvariant}
use Rattle.filter.proofs.StableLaws.{begun_invariant, hand_invariant, run_invariant, stable_means}
use Rattle.cut.proofs.CallLaws.{cut_invariant}
use Rattle.demands.specs.Sequence.{Call, calling, running, cutting, asking, handed, after_all}
use Rattle.demands.specs.Stable.{StableAfter}
use Rattle.demands.proofs.DemandLaws.{all_leads, sent_back}

-- every call keeps the invariant
pub handed_invariant : (w : Work) (c : Call) → CycleInvariant w → CycleInvariant (handed w c)
unfolding handed
handed_invariant w (calling r) I = hand_invariant w r I
handed_invariant w (running budget) I = run_invariant w budget I
handed_invariant w (cutting must) I = cut_invariant w must I
handed_invariant w (asking q) I = I

pub all_invariant : (w : Work) (cs : List Call) → CycleInvariant w → CycleInvariant (after_all w cs)
unfolding after_all
all_invariant w [] I = I
all_invariant w (c ∷ cs) I = all_invariant (handed w c) cs (handed_invariant w c I)

module _ (sheet : List ℕ) (limit : ℕ) (t : (open_call sheet limit).answer ≡ card 0) where
  abbrev w : Work
  w = (open_call sheet limit).work

  opened_invariant : CycleInvariant w
  opened_invariant =
      let is = (taken_sheet sheet limit t).opened in
      begun_invariant w (opened_good sheet limit t) (opened_long sheet limit) (ap (λ (o : Opened). o.work.place) is) (ap (λ (o : Opened). o.work.end) is)

  pub reached_invariant : (cs : List Call) → CycleInvariant (after_all w cs)
  reached_invariant cs = all_invariant w cs opened_invariant

  -- the sheet sent back is the state opened anew
  back_anew : (cs : List Call) → (open_call (sheet_of (after_all w cs)) w.limit).work ≡ anew (after_all w cs)
  back_anew cs =
      let g = opened_good sheet limit t in
      ap (λ (o : Opened). o.work) (sent_back sheet limit t cs w.limit g.limit_least g.limit_most).opens
      ∙ ap (fresh (after_all w cs).n (rows_of (after_all w cs))) (sym (all_leads w cs).limit)

  pub stable_after : (cs : List Call) → (after_all w cs).end ≡ Stable → StableAfter w cs
  stable_after cs e =
      let M = stable_means (after_all w cs) (reached_invariant cs) e in
      record {
        means = M;
        sent_back = λ budget h.
            ap (λ (u : Work). run_call u budget) (back_anew cs) ∙ M.again budget (subst (λ (n : ℕ). n + 2 ≤ budget) (sym (all_leads w cs).stations) h);
      }
