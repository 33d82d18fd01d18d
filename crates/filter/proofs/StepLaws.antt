-- A step of the run by cases, and the run's loop, as the code goes through them. Assumes nothing.
use mathlib.Core.Path.{◌≡◌, sym, ap, ap₂, ◌∙◌, subst}
use mathlib.Core.Bool.{Bool, true, false, cond}
use Prim.Native.Nat.{ℕ, ◌+◌, ◌-◌, ◌≤◌}
use native.Mathlib.Nat.{add-zero, le_dest}
use native.Mathlib.Numerals.{add-one}
use native.Mathlib.Omega.{arith}
use lib.Dec.{ltb}
use Rattle.bitset.proofs.BoolLaws.{cond_true, cond_false}
use Rattle.circuit.specs.declared.state.Work.{Work}
use Rattle.circuit.specs.declared.verdict.Verdict.{Verdict}
use Rattle.filter.specs.declared.hand.Called.{Called}
use Rattle.filter.specs.declared.cycle.Ran.{Ran}
use Rattle.circuit.specs.declared.card.Answer.TheVariants.{Taken}
use Rattle.circuit.specs.declared.card.End.TheVariants.{Open, Stable}
use Rattle.circuit.specs.Legs.{legs}
use Rattle.circuit.specs.State.{is_open, rows_of, moved, last_place, Good}
use Rattle.filter.specs.Rule.{rule_at}
use Rattle.circuit.specs.Round.{All}
use Rattle.filter.specs.Calls.{verdict, gone, halted, mark_after, advanced, cycled, after, step, run_from}
use Rattle.filter.specs.Turns.{both}
use Rattle.filter.proofs.CallLaws.{step_leads}
use Rattle.filter.proofs.RemovalLaws.{from_removed}
use Rattle.filter.proofs.RunLaws.{run_open, run_add, run_same}

-- ---- the state after a step

module _ (w : Work) (v : Verdict) where
  on : Work
  on = cond (ltb w.place (last_place w.n)) (advanced w v (mark_after w v)) (cycled w v (mark_after w v))

  pub after_none : v.none ≡ true → halted w v ≡ after w v
  unfolding after on
  after_none e = sym (cond_true (halted w v) on e)

  module _ (m : Bool) (is : m ≡ mark_after w v) (e : v.none ≡ false) where
    pub after_next : ltb w.place (last_place w.n) ≡ true → moved w v.left (w.place + 1) m Open ≡ after w v
    unfolding after on
    after_next l =
        ap₂ (λ (k : ℕ) (b : Bool). moved w v.left k b Open) (add-one w.place) is ∙ sym (cond_true (advanced w v (mark_after w v)) (cycled w v (mark_after w v)) l)
        ∙ sym (cond_false (halted w v) on e)

    pub after_last : ltb w.place (last_place w.n) ≡ false → moved w v.left 0 false (cond m Open Stable) ≡ after w v
    unfolding after on
    after_last l =
        ap (λ (b : Bool). moved w v.left 0 false (cond b Open Stable)) is ∙ sym (cond_false (advanced w v (mark_after w v)) (cycled w v (mark_after w v)) l)
        ∙ sym (cond_false (halted w v) on e)

pub step_is : (w : Work) (v : Verdict) (u : Work) (r : ℕ) → v ≡ verdict w (rule_at w.place) → r ≡ gone w v → u ≡ after w v → record { answer = Taken; work = u; removed = r } ≡ step w
unfolding step
step_is w v u r e p q =
    ap₂ (λ (x : Work) (y : ℕ). record { answer = Taken; work = x; removed = y }) q p
    ∙ ap (λ (x : Verdict). record { answer = Taken; work = after w x; removed = gone w x }) e

-- ---- the loop: what the first `steps` steps of the run have come to

pub record Run (start : Work) (w : Work) (steps : ℕ) : Type 0 where
  pub is : run_from steps start ≡ record { answer = Taken; work = w; steps = steps; removed = legs start.n (rows_of start) - legs start.n (rows_of w) }
  pub good : Good w

pub run_start : (w : Work) → Good w → Run w w 0
unfolding run_from
run_start w g =
    let none : 0 ≡ legs w.n (rows_of w) - legs w.n (rows_of w) = omega arith in
    record { is = ap (λ (k : ℕ). record { answer = Taken; work = w; steps = 0; removed = k }) none; good = g }

module _ {start w : Work} {steps : ℕ} (h : Run start w steps) (g : Good start) where
  -- no more legs than at the start
  pub run_fewer : legs start.n (rows_of w) ≤ legs start.n (rows_of start)
  run_fewer =
      let e = ap (λ (r : Ran). legs start.n (rows_of r.work)) h.is in
      omega (arith, e, from_removed steps start g)

  pub run_turn : is_open w.end ≡ true → (s : Called) → s ≡ step w → Run start s.work (steps + 1)
  unfolding run_from
  run_turn o s e = record { is = more ∙ ap (λ (k : ℕ). record { answer = Taken; work = s.work; steps = steps + 1; removed = k }) count; good = subst (λ (q : Called). Good q.work) (sym e) ((step_leads All w h.good).keeps h.good) }
    where
      gone : ℕ
      gone = legs start.n (rows_of start) - legs start.n (rows_of w)

      more : run_from (steps + 1) start ≡ record { answer = Taken; work = s.work; steps = steps + 1; removed = gone + s.removed }
      more =
          run_add steps 1 start ∙ ap (λ (r : Ran). both r (run_from 1 r.work)) h.is ∙ ap (both (record { answer = Taken; work = w; steps = steps; removed = gone })) (run_open 0 w o)
          ∙ ap (λ (k : ℕ). record { answer = Taken; work = (step w).work; steps = steps + 1; removed = gone + k }) (add-zero (step w).removed)
          ∙ ap (λ (q : Called). record { answer = Taken; work = q.work; steps = steps + 1; removed = gone + q.removed }) (sym e)

      count : gone + s.removed ≡ legs start.n (rows_of start) - legs start.n (rows_of s.work)
      count =
          let r = ap (λ (r : Ran). r.removed + legs start.n (rows_of r.work)) more in
          omega (arith, r, from_removed (steps + 1) start g)

  -- the budget is spent
  pub run_spent : (budget : ℕ) → steps ≡ budget
      → record { answer = Taken; work = w; steps = steps; removed = legs start.n (rows_of start) - legs start.n (rows_of w) } ≡ run_from budget start
  run_spent budget e = sym h.is ∙ ap (λ (b : ℕ). run_from b start) e

  -- the end is not open
  pub run_ended : (budget : ℕ) → steps ≤ budget → is_open w.end ≡ false
      → record { answer = Taken; work = w; steps = steps; removed = legs start.n (rows_of start) - legs start.n (rows_of w) } ≡ run_from budget start
  run_ended budget l o =
      let d = le_dest l in
      sym (ap (λ (b : ℕ). run_from b start) (sym d.1) ∙ run_same steps d.0 start (ap (λ (r : Ran). is_open r.work.end) h.is ∙ o) ∙ h.is)
