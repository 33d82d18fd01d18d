-- The cut step by hand, by cases as the code goes through them, and what it keeps. Assumes nothing.
use mathlib.Core.Path.{◌≡◌, refl, sym, ap, ap₂, ◌∙◌}
use mathlib.Core.Logic.{⊎_elim}
use mathlib.Core.Bool.{true, false, not, cond}
use mathlib.Core.List.{List}
use Prim.Native.Nat.{ℕ, ◌+◌}
use native.Mathlib.Omega.{arith}
use lib.ListN.{length}
use borrow.Author.Tests.{not-true, not-false}
use Rattle.bitset.proofs.BoolLaws.{cases, not_both, cond_elim, cond_true, cond_false}
use Rattle.circuit.specs.declared.card.Answer.TheVariants.{Taken, BadWork, NotTwoWay, StrayRoad}
use Rattle.circuit.specs.declared.state.Work.{Work}
use Rattle.circuit.specs.declared.verdict.Verdict.{Verdict}
use Rattle.circuit.specs.Legs.{leg, legs, table_of, without}
use Rattle.circuit.specs.Round.{RoundOf}
use Rattle.circuit.specs.State.{is_none, rows_of, bad, Good}
use Rattle.circuit.specs.Verdict.{Sound}
use Rattle.circuit.proofs.LegsLaws.{length_table_of}
use Rattle.circuit.proofs.StateLaws.{good}
use Rattle.roads.specs.declared.step.RoadVerdict.{RoadVerdict}
use Rattle.roads.specs.Cut.{cut, cut_none, cut_must, dropped, verdict_of, is_two_way, are_roads, TwoWay, DrivesAll}
use Rattle.roads.proofs.CheckLaws.{checked_two}
use Rattle.roads.proofs.KeepsLaws.{cut_sound, cut_drives}
use Rattle.filter.specs.declared.hand.Called.{Called}
use Rattle.filter.specs.Calls.{by_hand}
use Rattle.filter.specs.Leads.{Leads}
use Rattle.filter.specs.Stable.{CycleInvariant}
use Rattle.filter.proofs.CallLaws.{stay, leads_for, by_hand_leads}
use Rattle.filter.proofs.HandLaws.{hand_ended, hand_taken}
use Rattle.filter.proofs.RemovalLaws.{by_hand_removed, kept}
use Rattle.filter.proofs.StableLaws.{by_hand_invariant}
use Rattle.cut.specs.declared.CutCalled.{CutCalled}
use Rattle.cut.specs.Call.{uncut, cut_by_hand, cut_call}
use Rattle.cut.specs.Claims.{CutKeeps}

-- ---- the hand rules

-- what the state gets by hand, with a must-drive table
abbrev beside : Called → List ℕ → CutCalled
beside h m = record { answer = h.answer; work = h.work; must = m; removed = h.removed }

module _ (w : Work) (m : List ℕ) (c : RoadVerdict) where
  pub cut_ended : is_none w.end ≡ true → uncut Taken w m ≡ cut_by_hand w m c
  unfolding cut_by_hand
  cut_ended e = ap₂ beside (hand_ended w (verdict_of c) e) (sym (cond_true m c.must e))

  pub cut_going : is_none w.end ≡ false → beside (by_hand w (verdict_of c)) c.must ≡ cut_by_hand w m c
  unfolding cut_by_hand
  cut_going e = ap (beside (by_hand w (verdict_of c))) (sym (cond_false m c.must e))

-- ---- the checks, in their order

module _ (w : Work) (m : List ℕ) where
  abbrev taken : CutCalled
  taken = cut_by_hand w m (cut w.n (rows_of w) m)

  abbrev standing : CutCalled
  standing = cond (not (are_roads (rows_of w) m)) (uncut StrayRoad w m) taken

  abbrev mirrored : CutCalled
  mirrored = cond (not (is_two_way w.n (rows_of w))) (uncut NotTwoWay w m) standing

  -- each case of the call
  pub cut_cases : (P : CutCalled → Type 0) → (bad w ≡ true → P (uncut BadWork w m))
      → (bad w ≡ false → is_two_way w.n (rows_of w) ≡ false → P (uncut NotTwoWay w m))
      → (bad w ≡ false → is_two_way w.n (rows_of w) ≡ true → are_roads (rows_of w) m ≡ false → P (uncut StrayRoad w m))
      → (bad w ≡ false → is_two_way w.n (rows_of w) ≡ true → are_roads (rows_of w) m ≡ true → P taken) → P (cut_call w m)
  unfolding cut_call
  cut_cases P p q r s =
      cond_elim P (bad w) (uncut BadWork w m) mirrored p (λ b.
      cond_elim P (not (is_two_way w.n (rows_of w))) (uncut NotTwoWay w m) standing (λ t. q b (not-true _ t)) (λ t.
      cond_elim P (not (are_roads (rows_of w) m)) (uncut StrayRoad w m) taken (λ a. r b (not-false _ t) (not-true _ a)) (λ a. s b (not-false _ t) (not-false _ a))))

  pub cut_bad : bad w ≡ true → uncut BadWork w m ≡ cut_call w m
  cut_bad e =
      cut_cases (λ (c : CutCalled). uncut BadWork w m ≡ c) (λ _. refl) (λ f _. absurd (not_both e f)) (λ f _ _. absurd (not_both e f)) (λ f _ _. absurd (not_both e f))

  pub cut_one_way : bad w ≡ false → is_two_way w.n (rows_of w) ≡ false → uncut NotTwoWay w m ≡ cut_call w m
  cut_one_way e t =
      cut_cases (λ (c : CutCalled). uncut NotTwoWay w m ≡ c) (λ f. absurd (not_both f e)) (λ _ _. refl) (λ _ f _. absurd (not_both f t)) (λ _ f _. absurd (not_both f t))

  pub cut_stray : bad w ≡ false → is_two_way w.n (rows_of w) ≡ true → are_roads (rows_of w) m ≡ false → uncut StrayRoad w m ≡ cut_call w m
  cut_stray e t a =
      cut_cases (λ (c : CutCalled). uncut StrayRoad w m ≡ c) (λ f. absurd (not_both f e)) (λ _ f. absurd (not_both t f)) (λ _ _ _. refl) (λ _ _ f. absurd (not_both f a))

  pub cut_good : bad w ≡ false → is_two_way w.n (rows_of w) ≡ true → are_roads (rows_of w) m ≡ true → taken ≡ cut_call w m
  cut_good e t a =
      cut_cases (λ (c : CutCalled). taken ≡ c) (λ f. absurd (not_both f e)) (λ _ f. absurd (not_both t f)) (λ _ _ f. absurd (not_both a f)) (λ _ _ _. refl)

  -- a refused call hands back what it was given
  pub cut_refused : ((cut_call w m).answer ≡ Taken → ⊥) → cut_call w m ≡ uncut (cut_call w m).answer w m
  unfolding cut_by_hand
  cut_refused = cut_cases (λ (c : CutCalled). (c.answer ≡ Taken → ⊥) → c ≡ uncut c.answer w m) (λ _ _. refl) (λ _ _ _. refl) (λ _ _ _ _. refl)
      (λ _ _ _ h. absurd (h (hand_taken w (verdict_of (cut w.n (rows_of w) m)))))

  -- ---- what the call keeps

  abbrev Driving : (ℕ → ℕ) → Type 0
  Driving = DrivesAll w.n m

  -- what the step says of the state's table
  abbrev says : Verdict
  says = verdict_of (cut w.n (rows_of w) m)

  -- the tables have passed the checks
  module _ (g : Good w) (t : is_two_way w.n (rows_of w) ≡ true) (a : are_roads (rows_of w) m ≡ true) where
    two : TwoWay w.n (leg (rows_of w)) (leg m)
    two = checked_two w.n (rows_of w) m g.most t a

    pub says_sound : Sound Driving w.n (rows_of w) says
    says_sound = cut_sound w.n (rows_of w) m g.most two

  -- for the rounds that drive every given road; where the call is refused, for all
  pub cut_leads : Leads (λ h. (cut_call w m).answer ≡ Taken → Driving h) w (cut_call w m).work
  unfolding cut_by_hand
  cut_leads = cut_cases (λ (c : CutCalled). Leads (λ h. c.answer ≡ Taken → Driving h) w c.work) (λ _. stay _ w) (λ _ _. stay _ w) (λ _ _ _. stay _ w)
      (λ b t a. leads_for (λ h d _. d (hand_taken w says)) (by_hand_leads Driving w says (says_sound (good w b) t a)))

  -- which then drive the new ones
  pub cut_then_drives : (h : ℕ → ℕ) → Driving h → RoundOf w.n (rows_of w) h → DrivesAll w.n (cut_call w m).must h
  unfolding cut_by_hand
  cut_then_drives h d r = cut_cases (λ (c : CutCalled). DrivesAll w.n c.must h) (λ _. d) (λ _ _. d) (λ _ _ _. d)
      (λ b t a. cond_elim (λ (l : List ℕ). DrivesAll w.n l h) (is_none w.end) m (cut w.n (rows_of w) m).must (λ _. d)
      (λ _. cut_drives w.n (rows_of w) m (good w b).most (two (good w b) t a) h d r))

  pub cut_keeps : CutKeeps w m
  cut_keeps =
      let L = leads_for {Q = Driving} (λ h d _ _. d) cut_leads in
      record {
        survives = L.rounds;
        drives = cut_then_drives;
        none = λ o e. ⊎_elim (λ f. absurd (o f)) (λ f. f) (L.none e);
        gone = L.sub;
      }

  -- the state after it has what a stable end rests on
  pub cut_invariant : CycleInvariant w → CycleInvariant (cut_call w m).work
  unfolding cut_by_hand
  cut_invariant I = cut_cases (λ (c : CutCalled). CycleInvariant c.work) (λ _. I) (λ _ _. I) (λ _ _ _. I) (λ b t a. by_hand_invariant w says (says_sound I.good t a) I)

  -- removals are legs before less legs after
  pub cut_removed : (cut_call w m).removed + legs w.n (rows_of (cut_call w m).work) ≡ legs w.n (rows_of w)
  unfolding cut_by_hand
  cut_removed = cut_cases (λ (c : CutCalled). c.removed + legs w.n (rows_of c.work) ≡ legs w.n (rows_of w)) (λ _. omega arith) (λ _ _. omega arith) (λ _ _ _. omega arith)
      (λ b t a. by_hand_removed w says (says_sound (good w b) t a).sub)

  -- where no leg goes, the table stays
  pub cut_kept : length (rows_of w) ≡ 64 → (c : CutCalled) → c ≡ cut_call w m → c.removed ≡ 0 → rows_of c.work ≡ rows_of w
  cut_kept long c is none =
      ap (λ (c : CutCalled). rows_of c.work) is
      ∙ ⊎_elim (λ e. ap (λ (c : CutCalled). rows_of c.work) (sym (cut_bad e)))
      (λ e. kept w long (cut_call w m).work (cut_call w m).removed e cut_leads cut_removed (sym (ap (λ (c : CutCalled). c.removed) is) ∙ none)) (cases (bad w))

  -- 64 words stay 64 words
  pub cut_long : length m ≡ 64 → length (cut_call w m).must ≡ 64
  unfolding cut_by_hand cut
  cut_long l = cut_cases (λ (c : CutCalled). length c.must ≡ 64) (λ _. l) (λ _ _. l) (λ _ _ _. l)
      (λ _ _ _. cond_elim (λ (t : List ℕ). length t ≡ 64) (is_none w.end) m (cut w.n (rows_of w) m).must (λ _. l)
      (λ _. cond_elim (λ (r : RoadVerdict). length r.must ≡ 64) (cut_none w.n (leg (rows_of w)) (leg m)) (record { none = true; left = rows_of w; must = m })
      (record { none = false; left = without w.n (rows_of w) (dropped w.n (leg (rows_of w)) (leg m)); must = table_of w.n (cut_must w.n (leg (rows_of w)) (leg m)) })
      (λ _. l) (λ _. length_table_of w.n (cut_must w.n (leg (rows_of w)) (leg m)))))
