-- The hand rules by cases, as the code goes through them. Assumes nothing.
use mathlib.Core.Path.{◌≡◌, refl, sym, ap}
use mathlib.Core.Bool.{true, false}
use Prim.Native.Nat.{ℕ}
use lib.Dec.{ltb}
use borrow.Author.Tests.{lt-ltb}
use Rattle.bitset.proofs.BoolLaws.{not_both, cond_true}
use Rattle.circuit.specs.declared.state.Work.{Work}
use Rattle.circuit.specs.declared.verdict.Verdict.{Verdict}
use Rattle.filter.specs.declared.hand.Called.{Called}
use Rattle.circuit.specs.declared.card.Answer.TheVariants.{Taken, BadWork, StraySeed}
use Rattle.circuit.specs.State.{is_none, bad}
use Rattle.filter.specs.declared.rule.Rule.{Rule}
use Rattle.filter.specs.Rule.{stray_seed}
use Rattle.filter.specs.Calls.{gone, halted, unchanged, reopened, by_hand, verdict, hand_call}
use Rattle.filter.proofs.AfterLaws.{by_hand_cases, hand_call_cases}

-- the hand rules, on an end that is not none
module _ (w : Work) (v : Verdict) (e : is_none w.end ≡ false) where
  pub hand_is : record { answer = Taken; work = (by_hand w v).work; removed = gone w v } ≡ by_hand w v
  hand_is =
      by_hand_cases (λ (c : Called). record { answer = Taken; work = c.work; removed = gone w v } ≡ c) w v (λ f. absurd (not_both f e)) (λ _. refl) (λ _ _. refl)
      (λ _ z. ap (λ (k : ℕ). record { answer = Taken; work = w; removed = k }) z)

  pub hand_none : v.none ≡ true → halted w v ≡ (by_hand w v).work
  hand_none n =
      by_hand_cases (λ (c : Called). halted w v ≡ c.work) w v (λ f. absurd (not_both f e)) (λ _. refl) (λ f _. absurd (not_both n f)) (λ f _. absurd (not_both n f))

  pub hand_gone : v.none ≡ false → ltb 0 (gone w v) ≡ true → reopened w v ≡ (by_hand w v).work
  hand_gone n l =
      by_hand_cases (λ (c : Called). reopened w v ≡ c.work) w v (λ f. absurd (not_both f e)) (λ f. absurd (not_both f n)) (λ _ _. refl)
      (λ _ z. absurd (not_both l (ap (ltb 0) z)))

  pub hand_same : v.none ≡ false → ltb 0 (gone w v) ≡ false → w ≡ (by_hand w v).work
  hand_same n l =
      by_hand_cases (λ (c : Called). w ≡ c.work) w v (λ f. absurd (not_both f e)) (λ f. absurd (not_both f n)) (λ _ m. absurd (not_both (lt-ltb 0 (gone w v) m) l))
      (λ _ _. refl)

-- on an end that is none
pub hand_ended : (w : Work) (v : Verdict) → is_none w.end ≡ true → unchanged Taken w ≡ by_hand w v
unfolding by_hand
hand_ended w v e = sym (cond_true (unchanged Taken w) _ e)

-- ---- the checks, in their order

module _ (w : Work) (r : Rule) where
  pub call_bad : bad w ≡ true → unchanged BadWork w ≡ hand_call w r
  call_bad e = hand_call_cases (λ (c : Called). unchanged BadWork w ≡ c) w r (λ _. refl) (λ f _. absurd (not_both e f)) (λ f _. absurd (not_both e f))

  pub call_stray : bad w ≡ false → stray_seed w.n r ≡ true → unchanged StraySeed w ≡ hand_call w r
  call_stray e o = hand_call_cases (λ (c : Called). unchanged StraySeed w ≡ c) w r (λ f. absurd (not_both f e)) (λ _ _. refl) (λ _ f. absurd (not_both o f))

  pub call_good : bad w ≡ false → stray_seed w.n r ≡ false → by_hand w (verdict w r) ≡ hand_call w r
  call_good e o = hand_call_cases (λ (c : Called). by_hand w (verdict w r) ≡ c) w r (λ f. absurd (not_both f e)) (λ _ f. absurd (not_both f o)) (λ _ _. refl)

-- ---- refusals

-- past the checks a call by hand is taken
pub hand_taken : (w : Work) (v : Verdict) → (by_hand w v).answer ≡ Taken
hand_taken w v = by_hand_cases (λ (c : Called). c.answer ≡ Taken) w v (λ _. refl) (λ _. refl) (λ _ _. refl) (λ _ _. refl)

-- a refused one hands back the given state, with no removals
pub hand_refused : (w : Work) (r : Rule) → ((hand_call w r).answer ≡ Taken → ⊥) → hand_call w r ≡ unchanged (hand_call w r).answer w
hand_refused w r =
    hand_call_cases (λ (c : Called). (c.answer ≡ Taken → ⊥) → c ≡ unchanged c.answer w) w r (λ _ _. refl) (λ _ _ _. refl)
    (λ _ _ h. absurd (h (hand_taken w (verdict w r))))
