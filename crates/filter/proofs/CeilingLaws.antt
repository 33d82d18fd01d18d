-- Runs end within the ceiling: what is due falls with each step (W-206). Assumes nothing.
use mathlib.Core.Path.{◌≡◌, refl, sym, ap, ◌∙◌}
use mathlib.Core.Logic.{⊎_elim}
use mathlib.Core.Bool.{Bool, true, false}
use Prim.Native.Nat.{ℕ, zero, suc, ◌+◌, ◌-◌, ◌*◌, ◌≤◌, ◌<◌}
use native.Mathlib.Nat.{mul-le-mul, mul-le-mul_left, mul-suc, le_trans, le_dest}
use native.Mathlib.Omega.{arith}
use Rattle.bitset.specs.Sets.{digit}
use Rattle.bitset.proofs.BoolLaws.{clash, cases}
use Rattle.bitset.proofs.QuantLaws.{below?}
use Rattle.bitset.proofs.SetLaws.{digit_lt}
use Rattle.circuit.specs.declared.state.Work.{Work}
use Rattle.circuit.specs.declared.verdict.Verdict.{Verdict}
use Rattle.circuit.specs.Legs.{legs, Subtable}
use Rattle.circuit.specs.Round.{All}
use Rattle.circuit.specs.State.{is_open, rows_of, last_place, Good}
use Rattle.circuit.proofs.StateLaws.{not_bad, good_legs}
use Rattle.filter.specs.declared.cycle.Ran.{Ran}
use Rattle.filter.specs.Rule.{rule_at}
use Rattle.filter.specs.Calls.{verdict, mark_after, cycled, after, step, run_from, run_call}
use Rattle.filter.specs.Ends.{Ended, ceiling, full_budget, EndsWithin}
use Rattle.filter.proofs.AfterLaws.{mark_set, after_cases, left_le}
use Rattle.filter.proofs.CallLaws.{place_sound, step_leads}
use Rattle.filter.proofs.RunLaws.{run_open, run_shut, run_steps, run_same, shut_ended, run_good}

-- the places of the cycle, and the legs that stand
abbrev places : Work → ℕ
places w = suc (last_place w.n)

abbrev standing : Work → ℕ
standing w = legs w.n (rows_of w)

-- ---- what is due falls with each step

-- the places left in this cycle, and a cycle for each leg, and one for a mark that is set
due : Work → ℕ
due w = (places w - w.place) + places w * (standing w + digit w.mark)

-- below the last place; and at it, where the mark is given up
rest_falls : (last place x y : ℕ) → x ≤ y → place < last → (suc last - suc place) + suc last * x < (suc last - place) + suc last * y
rest_falls last place x y h l = omega (arith, mul-le-mul_left (suc last) h)

cycle_falls : (last place x y : ℕ) → x + 1 ≤ y → place ≤ last → (suc last - 0) + suc last * x < (suc last - place) + suc last * y
cycle_falls last place x y h l = omega (arith, mul-le-mul_left (suc last) h, mul-suc (suc last) x)

after_less : (w : Work) (v : Verdict) → w.place ≤ last_place w.n → Subtable v.left (rows_of w) → is_open (after w v).end ≡ true → due (after w v) < due w
unfolding due digit
after_less w v p sub =
    after_cases Less w v (λ _ o. clash (sym o)) (λ _ l o. rest_falls (last_place w.n) w.place _ _ (paid (mark_after w v) refl) l) (λ _ _. cycles (mark_after w v) refl)
  where
    Less : Work → Type 0
    Less u = is_open u.end ≡ true → due u < due w

    -- a leg that goes pays for the mark
    paid : (m : Bool) → mark_after w v ≡ m → legs w.n v.left + digit m ≤ standing w + digit w.mark
    paid true e =
        ⊎_elim (λ s. let set : digit w.mark ≡ 1 = ap digit s in omega (arith, set, left_le w v sub)) (λ l. omega (arith, l, left_le w v sub)) (mark_set w v e)
    paid false e = omega (arith, left_le w v sub)

    cycles : (m : Bool) → mark_after w v ≡ m → Less (cycled w v m)
    cycles true e o = cycle_falls (last_place w.n) w.place (legs w.n v.left + 0) _ (omega (arith, paid true e)) p
    cycles false e o = clash (sym o)

step_less : (w : Work) → Good w → is_open (step w).work.end ≡ true → due (step w).work < due w
unfolding step
step_less w g = after_less w (verdict w (rule_at w.place)) g.place (place_sound w g).sub

-- ---- a run ends when nothing is due

run_ends : (b : ℕ) (w : Work) → Good w → due w ≤ b → is_open (run_from b w).work.end ≡ false
unfolding due
run_ends zero w g h = absurd (let x : ⊥ = omega (arith, g.place) in x)
run_ends (suc b) w g h =
    ⊎_elim (λ e. shut (run_open b w e) (⊎_elim (λ o. run_ends b s ((step_leads All w g).keeps g) (less o)) (λ o. shut (run_shut b s o) o) (cases (is_open s.end))))
    (λ e. shut (run_shut (suc b) w e) e) (cases (is_open w.end))
  where
    s : Work
    s = (step w).work

    shut : {r q : Ran} → r ≡ q → is_open q.work.end ≡ false → is_open r.work.end ≡ false
    shut e f = ap (λ (r : Ran). is_open r.work.end) e ∙ f

    less : is_open s.end ≡ true → due s ≤ b
    less o = omega (arith, h, step_less w g o)

run_within : (w : Work) → Good w → EndsWithin w (due w)
run_within w g =
    record {
      steps = λ b. rw (run_good w b (not_bad w g)) (⊎_elim (few b) (many b) (below? b (due w)));
      ended = λ b h. shut_ended (run_call w b).work (rw (run_good w b (not_bad w g)) (run_ends b w g h));
    }
  where
    few : (b : ℕ) → b < due w → (run_from b w).steps ≤ due w
    few b l = omega (arith, l, run_steps b w)

    -- more budget than is due is not used
    many : (b : ℕ) → due w ≤ b → (run_from b w).steps ≤ due w
    many b h = let d = le_dest h in rw (sym d.1, run_same (due w) d.0 w (run_ends (due w) w g (omega arith))) (run_steps (due w) w)

-- ---- the ceiling

within_more : (w : Work) (k m : ℕ) → k ≤ m → EndsWithin w k → EndsWithin w m
within_more w k m le e = record { steps = λ b. le_trans (e.steps b) le; ended = λ b h. e.ended b (le_trans le h) }

-- from place 0 with the mark clear
pub run_ceiling : (w : Work) → Good w → w.place ≡ 0 → w.mark ≡ false → EndsWithin w (ceiling w.n (legs w.n (rows_of w)))
unfolding due digit
run_ceiling w g p m = within_more w (due w) (ceiling w.n (standing w)) (rw (p, m) (omega (arith, mul-suc (places w) (standing w)))) (run_within w g)

-- from any place, with the mark set or clear: as with a leg more
pub run_anywhere : (w : Work) → Good w → EndsWithin w (ceiling w.n (legs w.n (rows_of w) + 1))
unfolding due
run_anywhere w g =
    let one : standing w + digit w.mark ≤ standing w + 1 = omega (arith, digit_lt w.mark) in
    within_more w (due w) (ceiling w.n (standing w + 1)) (omega (arith, mul-le-mul_left (places w) one, mul-suc (places w) (standing w + 1))) (run_within w g)

-- ---- the ceiling of 64 stations with all legs

ceiling_most : (w : Work) → Good w → (l : ℕ) → ceiling w.n (legs w.n (rows_of w) + l) ≤ ceiling 64 (4032 + l)
ceiling_most w g l =
    let few : w.n + 2 ≤ 66 = omega (arith, g.most) in
    let cycles : standing w + l + 1 ≤ 4032 + l + 1 = omega (arith, good_legs w g) in
    mul-le-mul few cycles

pub run_most : (w : Work) → Good w → w.place ≡ 0 → w.mark ≡ false → EndsWithin w (ceiling 64 4032)
run_most w g p m = within_more w (ceiling w.n (standing w)) (ceiling 64 4032) (omega (arith, ceiling_most w g 0)) (run_ceiling w g p m)

-- the program's budget is enough
pub run_enough : (w : Work) → Good w → (budget : ℕ) → full_budget ≤ budget → Ended (run_call w budget).work
run_enough w g budget h = (run_anywhere w g).ended budget (omega (arith, ceiling_most w g 1, h))
