-- A call by hand, a step and a run taken apart: what holds of each outcome holds of them. Assumes nothing.
use mathlib.Core.Path.{◌≡◌, refl, sym, subst}
use mathlib.Core.Logic.{◌⊎◌, inl, inr, ⊎_elim}
use mathlib.Core.Bool.{true, false, cond}
use Prim.Native.Nat.{ℕ, suc, ◌+◌, ◌≤◌, ◌<◌}
use native.Mathlib.Omega.{arith}
use lib.Dec.{ltb}
use borrow.Author.Tests.{lt-ltb, ltb-true, ltb-false}
use Rattle.bitset.proofs.BoolLaws.{not_both, is_false, or_r, or_cases, cond_elim}
use Rattle.bitset.proofs.QuantLaws.{below?}
use Rattle.circuit.specs.declared.card.Answer.TheVariants.{Taken, BadWork, StraySeed}
use Rattle.circuit.specs.declared.state.Work.{Work}
use Rattle.circuit.specs.declared.verdict.Verdict.{Verdict}
use Rattle.circuit.specs.Legs.{legs, Subtable}
use Rattle.circuit.specs.State.{is_open, is_none, rows_of, last_place, bad}
use Rattle.circuit.proofs.LegsLaws.{legs_le}
use Rattle.filter.specs.declared.rule.Rule.{Rule}
use Rattle.filter.specs.declared.hand.Called.{Called}
use Rattle.filter.specs.declared.cycle.Ran.{Ran}
use Rattle.filter.specs.Rule.{stray_seed}
use Rattle.filter.specs.Calls.{verdict, gone, halted, unchanged, reopened, by_hand, hand_call, mark_after, advanced, cycled, after, step, idle, onward, run_from, run_call}

-- ---- a call by hand

pub by_hand_cases : (P : Called → Type 0) (w : Work) (v : Verdict) → (is_none w.end ≡ true → P (unchanged Taken w))
    → (v.none ≡ true → P (record { answer = Taken; work = halted w v; removed = gone w v }))
    → (v.none ≡ false → 0 < gone w v → P (record { answer = Taken; work = reopened w v; removed = gone w v }))
    → (v.none ≡ false → gone w v ≡ 0 → P (unchanged Taken w)) → P (by_hand w v)
unfolding by_hand
by_hand_cases P w v f g h k =
    cond_elim P (is_none w.end) (unchanged Taken w) (to (cond v.none (halted w v) some)) f (λ _.
    cond_elim (λ (u : Work). P (to u)) v.none (halted w v) some g (λ e.
    cond_elim (λ (u : Work). P (to u)) (ltb 0 (gone w v)) (reopened w v) w (λ l. h e (ltb-true 0 (gone w v) l)) (λ l.
    let none : gone w v ≡ 0 = omega (arith, ltb-false 0 (gone w v) l) in
    subst (λ (x : ℕ). P (record { answer = Taken; work = w; removed = x })) (sym none) (k e none))))
  where
    to : Work → Called
    to u = record { answer = Taken; work = u; removed = gone w v }

    some : Work
    some = cond (ltb 0 (gone w v)) (reopened w v) w

pub hand_call_cases : (P : Called → Type 0) (w : Work) (r : Rule) → (bad w ≡ true → P (unchanged BadWork w))
    → (bad w ≡ false → stray_seed w.n r ≡ true → P (unchanged StraySeed w))
    → (bad w ≡ false → stray_seed w.n r ≡ false → P (by_hand w (verdict w r))) → P (hand_call w r)
unfolding hand_call
hand_call_cases P w r f g h =
    cond_elim P (bad w) (unchanged BadWork w) (cond (stray_seed w.n r) (unchanged StraySeed w) (by_hand w (verdict w r))) f (λ e.
    cond_elim P (stray_seed w.n r) (unchanged StraySeed w) (by_hand w (verdict w r)) (g e) (h e))

-- ---- a step

module _ (w : Work) (v : Verdict) where
  -- a mark that is set stays set, and a leg that goes sets it
  mark_stays : w.mark ≡ true → mark_after w v ≡ true
  mark_stays m = rw m

  gone_marks : 0 < gone w v → mark_after w v ≡ true
  gone_marks l = or_r w.mark (lt-ltb 0 (gone w v) l)

  -- nothing else sets it
  pub mark_set : mark_after w v ≡ true → (w.mark ≡ true) ⊎ (0 < gone w v)
  mark_set e = ⊎_elim inl (λ l. inr (ltb-true 0 (gone w v) l)) (or_cases w.mark (ltb 0 (gone w v)) e)

  -- where it is clear after a step, it was before, and no leg went
  pub mark_clear : mark_after w v ≡ false → (w.mark ≡ false) × (gone w v ≡ 0)
  mark_clear e = (
    is_false w.mark (λ m. not_both (mark_stays m) e),
    ⊎_elim (λ l. absurd (not_both (gone_marks l) e)) (λ l. (let none : gone w v ≡ 0 = omega (arith, l) in none)) (below? 0 (gone w v)),
  )

pub after_cases : (P : Work → Type 0) (w : Work) (v : Verdict) → (v.none ≡ true → P (halted w v)) → (v.none ≡ false → w.place < last_place w.n → P (advanced w v (mark_after w v)))
    → (v.none ≡ false → last_place w.n ≤ w.place → P (cycled w v (mark_after w v))) → P (after w v)
unfolding after
after_cases P w v f g h =
    cond_elim P v.none (halted w v) (cond (ltb w.place (last_place w.n)) (advanced w v (mark_after w v)) (cycled w v (mark_after w v))) f (λ e.
    cond_elim P (ltb w.place (last_place w.n)) (advanced w v (mark_after w v)) (cycled w v (mark_after w v)) (λ l. g e (ltb-true _ _ l)) (λ l. h e (ltb-false _ _ l)))

pub after_rows : (w : Work) (v : Verdict) → rows_of (after w v) ≡ v.left
after_rows w v = after_cases (λ (u : Work). rows_of u ≡ v.left) w v (λ _. refl) (λ _ _. refl) (λ _ _. refl)

-- what goes and what is left is what stood
pub left_le : (w : Work) (v : Verdict) → Subtable v.left (rows_of w) → gone w v + legs w.n v.left ≡ legs w.n (rows_of w)
unfolding gone
left_le w v sub = omega (arith, legs_le w.n v.left (rows_of w) sub)

-- ---- a run

pub run_from_cases : (P : Ran → Type 0) (b : ℕ) (w : Work) → (is_open w.end ≡ true → P (onward (step w) (run_from b (step w).work)))
    → (is_open w.end ≡ false → P (idle Taken w)) → P (run_from (suc b) w)
unfolding run_from
run_from_cases P b w = cond_elim P (is_open w.end) (onward (step w) (run_from b (step w).work)) (idle Taken w)

pub run_call_cases : (P : Ran → Type 0) (w : Work) (budget : ℕ) → (bad w ≡ true → P (idle BadWork w)) → (bad w ≡ false → P (run_from budget w))
    → P (run_call w budget)
unfolding run_call
run_call_cases P w budget = cond_elim P (bad w) (idle BadWork w) (run_from budget w)
