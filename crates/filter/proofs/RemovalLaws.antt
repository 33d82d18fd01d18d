-- Removals are legs before less legs after, for a step, a call by hand and a run; where none is removed, the table stays. Assumes nothing.
use mathlib.Core.Path.{◌≡◌, refl, sym, ap, ◌∙◌, subst}
use mathlib.Core.Logic.{⊎_elim}
use mathlib.Core.Bool.{false}
use mathlib.Core.List.{List}
use Prim.Native.Nat.{ℕ, zero, suc, ◌+◌, ◌≤◌, ◌<◌}
use native.Mathlib.Nat.{not-suc-le-zero}
use native.Mathlib.Omega.{arith}
use lib.ListN.{length}
use Rattle.bitset.specs.Sets.{has, sum, size}
use Rattle.bitset.specs.Upto.{row}
use Rattle.bitset.proofs.BoolLaws.{cases}
use Rattle.bitset.proofs.OnesLaws.{count_mono, size_ones, within_eq}
use Rattle.bitset.proofs.QuantLaws.{below?, at_or_below}
use Rattle.bitset.proofs.SumLaws.{sum_mono}
use Rattle.bitset.proofs.UptoLaws.{upto_of}
use Rattle.circuit.specs.declared.state.Work.{Work}
use Rattle.circuit.specs.declared.verdict.Verdict.{Verdict}
use Rattle.circuit.specs.Legs.{leg, legs, Subtable}
use Rattle.circuit.specs.State.{rows_of, stray, bad, Good}
use Rattle.circuit.specs.Round.{All}
use Rattle.circuit.proofs.StateLaws.{good, not_bad, stray_row_lem, stray_beyond, stray_sub}
use Rattle.filter.specs.declared.rule.Rule.{Rule}
use Rattle.filter.specs.declared.hand.Called.{Called}
use Rattle.filter.specs.declared.cycle.Ran.{Ran}
use Rattle.filter.specs.Rule.{rule_at}
use Rattle.filter.specs.Calls.{verdict, gone, by_hand, hand_call, step, run_from, run_call}
use Rattle.filter.specs.Leads.{Leads}
use Rattle.filter.proofs.AfterLaws.{by_hand_cases, hand_call_cases, after_rows, left_le, run_from_cases, run_call_cases}
use Rattle.filter.proofs.CallLaws.{place_sound, step_leads, hand_call_leads, run_call_leads}
use Rattle.filter.proofs.HandLaws.{call_bad}
use Rattle.filter.proofs.RuleLaws.{says_sound}
use Rattle.filter.proofs.RunLaws.{run_bad, run_good}

-- ---- a step, and what a run takes from there

pub step_removed : (w : Work) → Good w → (step w).removed + legs w.n (rows_of (step w).work) ≡ legs w.n (rows_of w)
unfolding step
step_removed w g =
    let v = verdict w (rule_at w.place) in
    ap (λ (t : List ℕ). gone w v + legs w.n t) (after_rows w v) ∙ left_le w v (place_sound w g).sub

pub from_removed : (b : ℕ) (w : Work) → Good w → (run_from b w).removed + legs w.n (rows_of (run_from b w).work) ≡ legs w.n (rows_of w)
unfolding run_from
from_removed zero w g = omega arith
from_removed (suc b) w g =
    let s = step_leads All w g in
    let r = run_from b (step w).work in
    let more : r.removed + legs w.n (rows_of r.work) ≡ legs w.n (rows_of (step w).work) =
    subst (λ (n : ℕ). r.removed + legs n (rows_of r.work) ≡ legs n (rows_of (step w).work)) s.stations (from_removed b (step w).work (s.keeps g)) in
    run_from_cases (λ (q : Ran). q.removed + legs w.n (rows_of q.work) ≡ legs w.n (rows_of w)) b w
    (λ _. omega (arith, more, step_removed w g)) (λ _. omega arith)

-- ---- the calls

pub by_hand_removed : (w : Work) (v : Verdict) → Subtable v.left (rows_of w) → (by_hand w v).removed + legs w.n (rows_of (by_hand w v).work) ≡ legs w.n (rows_of w)
by_hand_removed w v sub =
    by_hand_cases (λ (c : Called). c.removed + legs w.n (rows_of c.work) ≡ legs w.n (rows_of w)) w v (λ _. omega arith) (λ _. left_le w v sub)
    (λ _ _. left_le w v sub) (λ _ _. omega arith)

pub hand_removed : (w : Work) (r : Rule) → (hand_call w r).removed + legs w.n (rows_of (hand_call w r).work) ≡ legs w.n (rows_of w)
hand_removed w r =
    hand_call_cases (λ (c : Called). c.removed + legs w.n (rows_of c.work) ≡ legs w.n (rows_of w)) w r (λ _. omega arith) (λ _ _. omega arith)
    (λ e f. by_hand_removed w (verdict w r) (says_sound r w.n (rows_of w) w.limit (good w e).most f).sub)

pub run_removed : (w : Work) (budget : ℕ) → (run_call w budget).removed + legs w.n (rows_of (run_call w budget).work) ≡ legs w.n (rows_of w)
run_removed w budget =
    run_call_cases (λ (r : Ran). r.removed + legs w.n (rows_of r.work) ≡ legs w.n (rows_of w)) w budget (λ _. omega arith)
    (λ e. from_removed budget w (good w e))

-- ---- no removals

-- where no term is above that of another sum and the sum is not below it, no term is below it
sum_tight : (m : ℕ) (f g : ℕ → ℕ) → ((k : ℕ) → k < m → f k ≤ g k) → sum m g ≤ sum m f → (k : ℕ) → k < m → g k ≤ f k
unfolding sum
sum_tight zero f g h e k l = absurd (not-suc-le-zero l)
sum_tight (suc m) f g h e k l =
    let low = sum_mono m f g (λ j q. h j (omega arith)) in
    let top = h m (omega arith) in
    ⊎_elim (λ q. subst (λ (x : ℕ). g x ≤ f x) (sym q) (omega (arith, e, low))) (λ q. sum_tight m f g (λ j r. h j (omega arith)) (omega (arith, e, top)) k q) (at_or_below l)

-- a table within another with no fewer legs is the same
pub same_table : (n : ℕ) (t u : List ℕ) → n ≤ 64 → stray n t ≡ false → length t ≡ 64 → length u ≡ 64 → Subtable u t → legs n t ≤ legs n u → u ≡ t
unfolding legs leg size
same_table n t u le clean lt lu sub few = upto_of 64 (row t) 0 u lu (λ i l. ⊎_elim (within i) (λ h. stray_beyond n u left i h l ∙ sym (stray_beyond n t clean i h l)) (below? i n)) ∙ sym (upto_of 64 (row t) 0 t lt (λ i l. refl))
  where
    left : stray n u ≡ false
    left = stray_sub n t u sub clean

    within : (i : ℕ) → i < n → row u i ≡ row t i
    within i l =
        let a = stray_row_lem n u le left i l in
        let b = stray_row_lem n t le clean i l in
        let most = sum_tight n (λ i. size n (row u i)) (λ i. size n (row t i)) (λ i l. count_mono n (has (row u i)) (has (row t i)) (λ j m e. sub i j e)) few i l in
        within_eq n (row u i) (row t i) a b (λ j m e. sub i j e) (omega (arith, most, size_ones n (row u i) a, size_ones n (row t i) b))

-- what a verdict leaves where no leg goes
pub left_same : (w : Work) (v : Verdict) → w.n ≤ 64 → stray w.n (rows_of w) ≡ false → length (rows_of w) ≡ 64 → length v.left ≡ 64 → Subtable v.left (rows_of w)
    → gone w v ≡ 0 → v.left ≡ rows_of w
left_same w v most clean long left sub none = same_table w.n (rows_of w) v.left most clean long left sub (omega (arith, none, left_le w v sub))

-- the table of a call that removes none
module _ (w : Work) (long : length (rows_of w) ≡ 64) where
  pub kept : {P : (ℕ → ℕ) → Type 0} (u : Work) (removed : ℕ) → bad w ≡ false → Leads P w u → removed + legs w.n (rows_of u) ≡ legs w.n (rows_of w) → removed ≡ 0 → rows_of u ≡ rows_of w
  kept u removed e L count none =
      let g = good w e in
      same_table w.n (rows_of w) (rows_of u) g.most g.table long (L.long long) L.sub (omega (arith, count, none))

  pub hand_kept : (r : Rule) (c : Called) → c ≡ hand_call w r → c.removed ≡ 0 → rows_of c.work ≡ rows_of w
  hand_kept r c is none =
      ap (λ (c : Called). rows_of c.work) is
      ∙ ⊎_elim (λ e. ap (λ (c : Called). rows_of c.work) (sym (call_bad w r e)))
      (λ e. kept (hand_call w r).work (hand_call w r).removed e (hand_call_leads All w r) (hand_removed w r) (sym (ap (λ (c : Called). c.removed) is) ∙ none)) (cases (bad w))

  pub run_kept : (budget : ℕ) (r : Ran) → r ≡ run_call w budget → r.removed ≡ 0 → rows_of r.work ≡ rows_of w
  run_kept budget r is none =
      ap (λ (r : Ran). rows_of r.work) is
      ∙ ⊎_elim (λ e. ap (λ (r : Ran). rows_of r.work) (run_bad w budget e))
      (λ e. kept (run_call w budget).work (run_call w budget).removed e (run_call_leads All w budget) (run_removed w budget) (sym (ap (λ (r : Ran). r.removed) is) ∙ none)) (cases (bad w))

  pub run_from_kept : Good w → (budget : ℕ) (r : Ran) → r ≡ run_from budget w → r.removed ≡ 0 → rows_of r.work ≡ rows_of w
  run_from_kept g budget r is = run_kept budget r (is ∙ sym (run_good w budget (not_bad w g)))
