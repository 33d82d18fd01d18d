-- A stable end means that no rule strikes anything more (W-212). Assumes nothing.
use mathlib.Core.Path.{◌≡◌, refl, sym, ap, ap₂, ◌∙◌, subst}
use mathlib.Core.Logic.{⊎_elim}
use mathlib.Core.Bool.{Bool, true, false, cond}
use mathlib.Core.List.{List}
use Prim.Native.Nat.{ℕ, zero, suc, ◌+◌, ◌≤◌, ◌<◌, zero-le}
use native.Mathlib.Omega.{arith}
use lib.Dec.{ltb}
use lib.ListN.{length}
use Rattle.bitset.proofs.BoolLaws.{clash, not_both}
use Rattle.bitset.proofs.QuantLaws.{at_or_below}
use Rattle.circuit.specs.declared.state.Work.{Work}
use Rattle.circuit.specs.declared.verdict.Verdict.{Verdict}
use Rattle.circuit.specs.declared.card.Answer.TheVariants.{Taken, StraySeed}
use Rattle.circuit.specs.declared.card.End.{End}
use Rattle.circuit.specs.declared.card.End.TheVariants.{Open, Stable, None}
use Rattle.circuit.specs.State.{is_open, is_none, rows_of, moved, last_place, Good}
use Rattle.circuit.specs.Verdict.{leaves, Sound}
use Rattle.circuit.proofs.StateLaws.{not_bad, moved_good}
use Rattle.filter.specs.declared.rule.Rule.{Rule}
use Rattle.filter.specs.declared.hand.Called.{Called}
use Rattle.filter.specs.declared.cycle.Ran.{Ran}
use Rattle.filter.specs.Rule.{stray_seed, rule_at}
use Rattle.filter.specs.Calls.{verdict, gone, halted, unchanged, by_hand, hand_call, mark_after, advanced, cycled, after, step, onward, run_from, run_call}
use Rattle.filter.specs.Ends.{full_budget}
use Rattle.filter.specs.Stable.{Leaves, Fixpoint, anew, one_cycle, StableMeans, CycleInvariant}
use Rattle.filter.proofs.AfterLaws.{by_hand_cases, hand_call_cases, mark_clear, after_cases, run_from_cases, run_call_cases}
use Rattle.filter.proofs.CallLaws.{open_none, place_sound}
use Rattle.filter.proofs.RemovalLaws.{left_same}
use Rattle.filter.proofs.RuleLaws.{says_sound, place_fits, rule_placed}
use Rattle.filter.proofs.RunLaws.{open_is, run_open, run_shut, run_good}
use Rattle.filter.proofs.CeilingLaws.{run_enough}

open_stable : {A : Type 0} → Open ≡ Stable → A
open_stable e = clash (ap is_open e)

-- ---- states in which the invariant says nothing of the rules

-- at place 0 with the end open: that of an opened sheet, and one that a call opens anew
pub begun_invariant : (w : Work) → Good w → length (rows_of w) ≡ 64 → w.place ≡ 0 → w.end ≡ Open → CycleInvariant w
begun_invariant w g long p o =
    record {
      good = g;
      long = long;
      clear = λ _ _ k l. absurd (let x : ⊥ = omega (arith, l, p) in x);
      stable = λ e. open_stable (sym o ∙ e);
      home = λ e. open_stable (sym o ∙ e);
    }

pub none_invariant : (w : Work) → Good w → length (rows_of w) ≡ 64 → w.end ≡ None → CycleInvariant w
none_invariant w g long n =
    record { good = g; long = long; clear = λ e. open_none (sym e ∙ n); stable = λ e. clash (ap is_none (sym n ∙ e)); home = λ e. clash (ap is_none (sym n ∙ e)) }

-- ---- one verdict

-- what the rules at all places leave, every rule leaves
by_places : (w : Work) → ((k : ℕ) → k ≤ last_place w.n → Leaves w (rule_at k)) → Fixpoint w
by_places w at r f = let p = rule_placed w.n r f in subst (Leaves w) p.2 (at p.0 p.1)

module _ (w : Work) (v : Verdict) where
  -- a cycle ends stable only where the mark is clear
  cycled_stable : (m : Bool) → (cycled w v m).end ≡ Stable → m ≡ false
  cycled_stable true e = open_stable e
  cycled_stable false e = refl

  module _ {P : (ℕ → ℕ) → Type 0} (S : Sound P w.n (rows_of w) v) (I : CycleInvariant w) where
    left_good : (place : ℕ) (mark : Bool) (end : End) → place ≤ last_place w.n → Good (moved w v.left place mark end)
    left_good place mark end = moved_good w v.left place mark end I.good (S.clean I.good.table)

    halted_invariant : CycleInvariant (halted w v)
    halted_invariant = none_invariant (halted w v) (left_good w.place w.mark None I.good.place) (S.long I.long) refl

    pub by_hand_invariant : CycleInvariant (by_hand w v).work
    by_hand_invariant =
        by_hand_cases (λ (c : Called). CycleInvariant c.work) w v (λ _. I) (λ _. halted_invariant)
        (λ _ _. begun_invariant (moved w v.left 0 false Open) (left_good 0 false Open zero-le) (S.long I.long) refl refl) (λ _ _. I)

    module _ (o : w.end ≡ Open) (here : v ≡ verdict w (rule_at w.place)) (e : v.none ≡ false) (m : mark_after w v ≡ false) where
      -- the step left the table
      same : v ≡ leaves (rows_of w)
      same = ap₂ (λ (b : Bool) (t : List ℕ). record { none = b; left = t }) e (left_same w v I.good.most I.good.table I.long (S.long I.long) S.sub (mark_clear w v m).1)

      -- so the rule at its place leaves it, as those before do
      up_to : (k : ℕ) → k < suc w.place → Leaves w (rule_at k)
      up_to k l = ⊎_elim (λ q. ap (λ (x : ℕ). verdict w (rule_at x)) q ∙ sym here ∙ same) (I.clear o (mark_clear w v m).0 k) (at_or_below l)

      passed : (place : ℕ) (mark : Bool) (end : End) (k : ℕ) → k < suc w.place → Leaves (moved w v.left place mark end) (rule_at k)
      passed place mark end k l = subst (λ (t : List ℕ). Leaves (moved w t place mark end) (rule_at k)) (sym (ap (λ (u : Verdict). u.left) same)) (up_to k l)

    after_invariant : w.end ≡ Open → v ≡ verdict w (rule_at w.place) → CycleInvariant (after w v)
    after_invariant o here =
        after_cases CycleInvariant w v (λ _. halted_invariant)
        (λ e l.
        record {
          good = left_good (suc w.place) (mark_after w v) Open l;
          long = S.long I.long;
          clear = λ _ m. passed o here e m (suc w.place) (mark_after w v) Open;
          stable = λ q. open_stable q;
          home = λ q. open_stable q;
        })
        (λ e l.
        let end : End = (cycled w v (mark_after w v)).end in
        record {
          good = left_good 0 false end zero-le;
          long = S.long I.long;
          clear = λ _ _ k h. absurd (let x : ⊥ = omega (arith, h) in x);
          stable = λ q. by_places (cycled w v (mark_after w v)) (λ k h. passed o here e (cycled_stable (mark_after w v) q) 0 false end k (omega (arith, h, l)));
          home = λ _. (refl, refl);
        })

-- ---- the calls keep the invariant

step_invariant : (w : Work) → w.end ≡ Open → CycleInvariant w → CycleInvariant (step w).work
unfolding step
step_invariant w o I = after_invariant w (verdict w (rule_at w.place)) (place_sound w I.good) I o refl

from_invariant : (b : ℕ) (w : Work) → CycleInvariant w → CycleInvariant (run_from b w).work
unfolding run_from
from_invariant zero w I = I
from_invariant (suc b) w I =
    run_from_cases (λ (r : Ran). CycleInvariant r.work) b w (λ o. from_invariant b (step w).work (step_invariant w (open_is w.end o) I)) (λ _. I)

pub hand_invariant : (w : Work) (r : Rule) → CycleInvariant w → CycleInvariant (hand_call w r).work
hand_invariant w r I =
    hand_call_cases (λ (c : Called). CycleInvariant c.work) w r (λ _. I) (λ _ _. I)
    (λ _ f. by_hand_invariant w (verdict w r) (says_sound r w.n (rows_of w) w.limit I.good.most f) I)

pub run_invariant : (w : Work) (budget : ℕ) → CycleInvariant w → CycleInvariant (run_call w budget).work
run_invariant w budget I = run_call_cases (λ (r : Ran). CycleInvariant r.work) w budget (λ _. I) (λ _. from_invariant budget w I)

-- ---- a table that every rule leaves

-- no leg goes
leaves_none : (w : Work) → gone w (leaves (rows_of w)) ≡ 0
unfolding gone
leaves_none w = omega arith

by_hand_leaves : (w : Work) (v : Verdict) → v ≡ leaves (rows_of w) → by_hand w v ≡ unchanged Taken w
by_hand_leaves w v e =
    by_hand_cases (λ (c : Called). c ≡ unchanged Taken w) w v (λ _. refl) (λ n. absurd (not_both n (ap (λ (u : Verdict). u.none) e)))
    (λ _ l. absurd (let x : ⊥ = omega (arith, l, ap (gone w) e, leaves_none w) in x)) (λ _ _. refl)

module _ (w : Work) (g : Good w) (F : Fixpoint w) where
  -- the answer by whether the seed is stray
  by_seed : (r : Rule) {b : Bool} → stray_seed w.n r ≡ b → unchanged (cond b StraySeed Taken) w ≡ unchanged (cond (stray_seed w.n r) StraySeed Taken) w
  by_seed r f = ap (λ (b : Bool). unchanged (cond b StraySeed Taken) w) (sym f)

  pub fixpoint_hand : (r : Rule) → hand_call w r ≡ unchanged (cond (stray_seed w.n r) StraySeed Taken) w
  fixpoint_hand r =
      hand_call_cases (λ (c : Called). c ≡ unchanged (cond (stray_seed w.n r) StraySeed Taken) w) w r (λ e. absurd (not_both e (not_bad w g))) (λ _. by_seed r)
      (λ _ f. by_hand_leaves w (verdict w r) (F r f) ∙ by_seed r f)

  -- the state at a place of the cycle, and at its end
  abbrev at : ℕ → Work
  at k = moved w (rows_of w) k false Open

  abbrev ended : Work
  ended = moved w (rows_of w) 0 false Stable

  unmarked : (k : ℕ) → mark_after (at k) (leaves (rows_of w)) ≡ false
  unmarked k = ap (ltb 0) (leaves_none (at k))

  next : (k : ℕ) → k < last_place w.n → after (at k) (leaves (rows_of w)) ≡ at (suc k)
  next k l =
      after_cases (λ (u : Work). u ≡ at (suc k)) (at k) (leaves (rows_of w)) (λ e. clash (sym e)) (λ _ _. ap (advanced (at k) (leaves (rows_of w))) (unmarked k))
      (λ _ m. absurd (let x : ⊥ = omega (arith, l, m) in x))

  last : (k : ℕ) → last_place w.n ≤ k → after (at k) (leaves (rows_of w)) ≡ ended
  last k l =
      after_cases (λ (u : Work). u ≡ ended) (at k) (leaves (rows_of w)) (λ e. clash (sym e)) (λ _ m. absurd (let x : ⊥ = omega (arith, l, m) in x))
      (λ _ _. ap (cycled (at k) (leaves (rows_of w))) (unmarked k))

  step_at : (k : ℕ) → k ≤ last_place w.n → (u : Work) → after (at k) (leaves (rows_of w)) ≡ u → step (at k) ≡ unchanged Taken u
  unfolding step
  step_at k l u e =
      ap (λ (v : Verdict). record { answer = Taken; work = after (at k) v; removed = gone (at k) v }) (F (rule_at k) (place_fits w.n k l))
      ∙ ap₂ (λ (x : Work) (y : ℕ). record { answer = Taken; work = x; removed = y }) e (leaves_none (at k))

  -- one step, and the run from there
  run_at : (b k : ℕ) (u : Work) (r : Ran) → step (at k) ≡ unchanged Taken u → run_from b u ≡ r → run_from (suc b) (at k) ≡ onward (unchanged Taken u) r
  run_at b k u r s e = run_open b (at k) refl ∙ ap (λ (c : Called). onward c (run_from b c.work)) s ∙ ap (onward (unchanged Taken u)) e

  -- m more places are left after place k
  rest : (m b k : ℕ) → k + m ≡ last_place w.n → m < b → run_from b (at k) ≡ record { answer = Taken; work = ended; steps = suc m; removed = 0 }
  rest m zero k e l = absurd (let x : ⊥ = omega (arith, l) in x)
  rest zero (suc b) k e l = run_at b k ended _ (step_at k (omega (arith, e)) ended (last k (omega (arith, e)))) (run_shut b ended refl)
  rest (suc m) (suc b) k e l =
      run_at b k (at (suc k)) _ (step_at k (omega (arith, e)) (at (suc k)) (next k (omega (arith, e)))) (rest m b (suc k) (omega (arith, e)) (omega (arith, l)))

  -- opened anew, a run takes one cycle and removes nothing
  pub fixpoint_again : (budget : ℕ) → w.n + 2 ≤ budget → run_call (anew w) budget ≡ one_cycle ended
  fixpoint_again budget h =
      let n : suc (last_place w.n) ≡ w.n + 2 = omega arith in
      run_good (anew w) budget (not_bad (anew w) (moved_good w (rows_of w) 0 false Open g g.table zero-le))
      ∙ rest (last_place w.n) budget 0 (omega arith) (omega (arith, h)) ∙ ap (λ (x : ℕ). record { answer = Taken; work = ended; steps = x; removed = 0 }) n

-- ---- what a stable end means

pub stable_means : (w : Work) → CycleInvariant w → w.end ≡ Stable → StableMeans w
stable_means w I e =
    let F = I.stable e in
    let is : moved w (rows_of w) 0 false Stable ≡ w =
    sym (ap₂ (λ (x : ℕ) (y : Bool). moved w (rows_of w) x y w.end) (I.home e).0 (I.home e).1 ∙ ap (moved w (rows_of w) 0 false) e) in
    record {
      hand = fixpoint_hand w I.good F;
      run = λ budget. run_good w budget (not_bad w I.good) ∙ run_shut budget w (ap is_open e);
      again = λ budget h. fixpoint_again w I.good F budget h ∙ ap one_cycle is;
    }

-- a run with the full budget that does not end none ends stable, at a fixpoint
pub run_fixpoint : (w : Work) (budget : ℕ) → CycleInvariant w → full_budget ≤ budget → is_none (run_call w budget).work.end ≡ false
    → ((run_call w budget).work.end ≡ Stable) × Fixpoint (run_call w budget).work
run_fixpoint w budget I enough going =
    let s = ⊎_elim (λ e. e) (λ e. absurd (not_both (ap is_none e) going)) (run_enough w I.good budget enough) in
    (s, (run_invariant w budget I).stable s)
