-- Sweep and chain step are monotone at a fixpoint: from a larger table they strike no leg of it, and they do not give none. Assumes nothing.
use mathlib.Core.Path.{◌≡◌, refl, sym, ap, ◌∙◌, subst}
use mathlib.Core.Logic.{◌≢◌, inl, inr, ⊎_elim}
use mathlib.Core.Bool.{Bool, true, false, not, ◌&&◌, ◌||◌}
use mathlib.Core.List.{List}
use Prim.Native.Nat.{ℕ, zero, suc, ◌^◌, ◌≤◌, ◌<◌}
use native.Mathlib.Nat.{lt_of_lt_of_le}
use native.Mathlib.Omega.{arith}
use lib.Dec.{eqb}
use borrow.Author.Tests.{eqb-true, eqb-false, eq-eqb, ne_eqb, not-true}
use Rattle.bitset.specs.Upto.{row}
use Rattle.bitset.proofs.BoolLaws.{not_both, clash, cases, is_false, and_intro, and_r, or_l, or_r, or_cases, or_false_l, or_false_r}
use Rattle.bitset.proofs.QuantLaws.{any_intro, any_false}
use Rattle.bitset.proofs.SetLaws.{set_of_elim, some_member}
use Rattle.circuit.specs.declared.state.Work.{Work}
use Rattle.circuit.specs.declared.verdict.Verdict.{Verdict}
use Rattle.circuit.specs.Legs.{leg, col, columns, without, Subtable}
use Rattle.circuit.specs.State.{rows_of, stray, bad}
use Rattle.circuit.specs.Verdict.{leaves}
use Rattle.circuit.proofs.LegsLaws.{table_of_leg, without_stays}
use Rattle.circuit.proofs.StateLaws.{good, stray_legs, stray_row_lem, stray_sub}
use Rattle.filter.specs.declared.rule.Rule.{Rule}
use Rattle.filter.specs.declared.rule.Rule.TheVariants.{Sweep, Chain}
use Rattle.filter.specs.declared.hand.Called.{Called}
use Rattle.filter.specs.Sweep.{stuck, next_taken, prev_taken, sweep}
use Rattle.filter.specs.Chain.{chain}
use Rattle.filter.specs.Trail.{OnlyNext, Compulsory, Splits, Fork, Trail, Different, Loop, ChainSays}
use Rattle.filter.specs.Rule.{says}
use Rattle.filter.specs.Calls.{verdict, hand_call}
use Rattle.filter.specs.Stable.{Fixpoint}
use Rattle.filter.specs.Inside.{Inside}
use Rattle.filter.proofs.OnlyLaws.{only_row, only_column}
use Rattle.filter.proofs.SweepLaws.{not_stuck, next_by, previous_by, sweep_cases}
use Rattle.filter.proofs.TrailLaws.{chain_says}
use Rattle.filter.proofs.AfterLaws.{by_hand_cases, hand_call_cases}

-- ---- forks and loops of legs that are among others

module _ {L M : ℕ → ℕ → Type 0} (among : (i j : ℕ) → L i j → M i j) where
  trail_among : {k a b : ℕ} → Trail L k a b → Trail M k a b
  trail_among T = record { at = T.at; starts = T.starts; ends = T.ends; legs = λ i l. among (T.at i) (T.at (suc i)) (T.legs i l) }

  splits_among : Splits L → Splits M
  splits_among s =
      record {
        station = s.station;
        next = s.next;
        other = s.other;
        leads = among s.station s.next s.leads;
        leads_too = among s.station s.other s.leads_too;
        differ = s.differ;
      }

  loop_among : {n : ℕ} → Loop n L → Loop n M
  unfolding trail_among
  loop_among l = record { start = l.start; length = l.length; some = l.some; fewer = l.fewer; trail = trail_among l.trail; once = l.once }

fork_among : {L M : ℕ → ℕ → Type 0} → ((i j : ℕ) → L i j → M i j) → Fork L → Fork M
fork_among among (inl s) = inl (splits_among among s)
fork_among among (inr s) = inr (splits_among (λ j i. among i j) s)

-- a trail that a leg closes is a loop
module _ {n : ℕ} {L : ℕ → ℕ → Type 0} {k a b : ℕ} (fewer : suc k < n) (T : Trail L k a b) (once : Different T.at (suc k)) (closed : L b a) where
  around : ℕ → ℕ
  around zero = b
  around (suc i) = T.at i

  around_leg : (i : ℕ) → i < suc k → L (around i) (around (suc i))
  unfolding around
  around_leg zero l = subst (L b) (sym T.starts) closed
  around_leg (suc i) l = T.legs i (omega (arith, l))

  -- b is the last station of the trail
  last_once : (j : ℕ) → j < k → T.at j ≡ b → ⊥
  last_once j l e = let q = once j k (omega (arith, l)) (omega arith) (e ∙ sym T.ends) in let x : ⊥ = omega (arith, l, q) in x

  around_once : Different around (suc k)
  unfolding around
  around_once zero zero li lj e = refl
  around_once zero (suc j) li lj e = absurd (last_once j (omega (arith, lj)) (sym e))
  around_once (suc i) zero li lj e = absurd (last_once i (omega (arith, li)) e)
  around_once (suc i) (suc j) li lj e = ap suc (once i j (omega (arith, li)) (omega (arith, lj)) e)

  closed_loop : Loop n L
  unfolding around
  closed_loop =
      record {
        start = b;
        length = suc k;
        some = omega arith;
        fewer = fewer;
        trail = record { at = around; starts = refl; ends = T.ends; legs = around_leg };
        once = around_once;
      }

-- ---- a table t that sweep and chain step leave

module _ (n : ℕ) (t : List ℕ) (le : n ≤ 64) (clean : stray n t ≡ false) (S : sweep n t ≡ leaves t) (C : chain n t ≡ leaves t) where
  abbrev goes : ℕ → ℕ → Bool
  goes i j = next_taken n t i j || prev_taken n (columns n t) i j

  left : (stuck n t ≡ false) × (without n t goes ≡ t)
  left =
      sweep_cases n t (λ (v : Verdict). v ≡ leaves t → (stuck n t ≡ false) × (without n t goes ≡ t)) (λ _ e. clash (ap (λ (v : Verdict). v.none) e))
      (λ f e. (f, ap (λ (v : Verdict). v.left) e)) S

  -- no leg that stands would go
  standing : (i j : ℕ) → leg t i j ≡ true → (i < n) × (j < n) × (goes i j ≡ false)
  unfolding without
  standing i j h =
      let f = table_of_leg n (λ i j. leg t i j && not (goes i j)) i j (ap (λ (u : List ℕ). leg u i j) left.1 ∙ h) in
      (f.0, f.1, not-true (goes i j) (and_r (leg t i j) (not (goes i j)) f.2))

  -- each station has a leg out, and a leg in
  free : (i : ℕ) → i < n → eqb (row t i) 0 || eqb (col n t i) 0 ≡ false
  unfolding stuck
  free i l = any_false n (λ i. eqb (row t i) 0 || eqb (col n t i) 0) i left.0 l

  out : (i : ℕ) → i < n → (j : ℕ) × (j < n) × (leg t i j ≡ true)
  unfolding leg
  out i l = some_member n (row t i) (λ k h. (stray_legs n t clean i k (lt_of_lt_of_le l le) h).1) (or_false_l (eqb (row t i) 0) (eqb (col n t i) 0) (free i l))

  into : (j : ℕ) → j < n → (i : ℕ) × (i < n) × (leg t i j ≡ true)
  unfolding col
  into j l =
      let f = some_member n (col n t j) (λ k h. (set_of_elim n (λ i. leg t i j) k h).0) (or_false_r (eqb (row t j) 0) (eqb (col n t j) 0) (free j l)) in
      (f.0, f.1, (set_of_elim n (λ i. leg t i j) f.0 f.2).1)

  -- so an only next or previous is one
  leads : (i j : ℕ) → i < n → OnlyNext n (leg t) i j → leg t i j ≡ true
  leads i j l only = let f = out i l in subst (λ (k : ℕ). leg t i k ≡ true) (only f.0 f.1 f.2) f.2

  enters : (i j : ℕ) → j < n → OnlyNext n (λ j i. leg t i j) j i → leg t i j ≡ true
  enters i j l only = let f = into j l in subst (λ (k : ℕ). leg t k j ≡ true) (only f.0 f.1 f.2) f.2

  -- and of no other station, where a leg i→j stands
  module _ (i j : ℕ) (h : leg t i j ≡ true) where
    next_once : (k : ℕ) → k < n → k ≢ i → OnlyNext n (leg t) k j → ⊥
    unfolding next_taken
    next_once k l other only =
        let s = standing i j h in
        let is = only_row n t k j (stray_row_lem n t le clean k l) s.1 (leads k j l only) only in
        not_both
        (or_l (prev_taken n (columns n t) i j) (any_intro n (λ k. not (eqb k i) && eqb (row t k) (2 ^ j)) k l (and_intro (ap not (ne_eqb k i other)) (eq-eqb (row t k) (2 ^ j) is))))
        s.2

    previous_once : (k : ℕ) → k < n → k ≢ j → OnlyNext n (λ j i. leg t i j) k i → ⊥
    unfolding prev_taken
    previous_once k l other only =
        let s = standing i j h in
        let is = only_column n t le i k l s.0 (enters i k l only) only in
        not_both
        (or_r (next_taken n t i j)
        (any_intro n (λ k. not (eqb k j) && eqb (row (columns n t) k) (2 ^ i)) k l (and_intro (ap not (ne_eqb k j other)) (eq-eqb (row (columns n t) k) (2 ^ i) is))))
        s.2

    -- so no other compulsory leg leaves i or enters j
    compulsory_next : (k : ℕ) → Compulsory n t i k → k ≡ j
    compulsory_next k c =
        ⊎_elim (λ only. sym (only j (standing i j h).1 h))
        (λ only. ⊎_elim (λ (q : eqb k j ≡ true). eqb-true k j q) (λ (q : eqb k j ≡ false). absurd (previous_once k c.to (eqb-false k j q) only)) (cases (eqb k j))) c.only

    compulsory_previous : (k : ℕ) → Compulsory n t k j → k ≡ i
    compulsory_previous k c =
        ⊎_elim (λ only. ⊎_elim (λ (q : eqb k i ≡ true). eqb-true k i q) (λ (q : eqb k i ≡ false). absurd (next_once k c.from (eqb-false k i q) only)) (cases (eqb k i)))
        (λ only. sym (only i (standing i j h).0 h)) c.only

  told : ChainSays n t (leaves t)
  told = subst (ChainSays n t) C (chain_says n t le clean)

  no_loop : Loop n (Compulsory n t) → ⊥
  no_loop l = clash (sym (told.none.found (inr l)))

  -- no leg that stands leads back along a trail of compulsory legs: it would be one itself, and close a loop, or it would go
  no_return : (k a b : ℕ) → 1 ≤ k → suc k < n → (T : Trail (Compulsory n t) k a b) → Different T.at (suc k) → leg t b a ≡ true → ⊥
  no_return k a b some fewer T once h =
      let s = standing b a h in
      ((told.left refl b a s.0 s.1).holds h).1
      (record {
        length = k;
        some = some;
        fewer = fewer;
        trail = T;
        once = once;
        first = λ i c. open_end (subst (λ (x : ℕ). Compulsory n t x a) (compulsory_previous b a h i c) c);
        last = λ j c. open_end (subst (Compulsory n t b) (compulsory_next b a h j c) c);
      })
    where
      open_end : Compulsory n t b a → ⊥
      open_end c = no_loop (closed_loop fewer T once c)

  -- ---- and a table x with all its legs

  module _ (x : List ℕ) (sub : Subtable t x) (whole : stray n x ≡ false) where
    -- what is left of x has them too
    abbrev Spared : Verdict → Type 0
    Spared v = (v.none ≡ false) × Subtable t v.left

    only_out : (i j : ℕ) → OnlyNext n (leg x) i j → OnlyNext n (leg t) i j
    only_out i j only k l e = only k l (sub i k e)

    only_in : (j i : ℕ) → OnlyNext n (λ j i. leg x i j) j i → OnlyNext n (λ j i. leg t i j) j i
    only_in j i only k l e = only k l (sub k j e)

    pub sweep_spares : Spared (sweep n x)
    sweep_spares =
        sweep_cases n x Spared
        (λ e. absurd (not_both e (not_stuck n x (λ i l. let f = out i l in (f.0, sub i f.0 f.2)) (λ j l. let f = into j l in (f.0, f.1, sub f.0 j f.2)))))
        (λ _. (refl, λ i j h. let s = standing i j h in without_stays n x struck i j le s.0 s.1 (sub i j h) (is_false (struck i j) (kept i j h))))
      where
        struck : ℕ → ℕ → Bool
        struck i j = next_taken n x i j || prev_taken n (columns n x) i j

        kept : (i j : ℕ) → leg t i j ≡ true → next_taken n x i j || prev_taken n (columns n x) i j ≡ true → ⊥
        kept i j h e =
            ⊎_elim (λ q. let f = next_by n x i j q in next_once i j h f.0 f.1 f.2 (only_out f.0 j f.3))
            (λ q. let f = previous_by n x le i j q in previous_once i j h f.0 f.1 f.2 (only_in f.0 i f.3))
            (or_cases (next_taken n x i j) (prev_taken n (columns n x) i j) e)

    -- what is compulsory in x is in t
    compulsory_too : (i j : ℕ) → Compulsory n x i j → Compulsory n t i j
    compulsory_too i j c =
        record {
          from = c.from;
          to = c.to;
          stands = ⊎_elim (λ only. leads i j c.from (only_out i j only)) (λ only. enters i j c.to (only_in j i only)) c.only;
          only = ⊎_elim (λ only. inl (only_out i j only)) (λ only. inr (only_in j i only)) c.only;
        }

    pub chain_spares : Spared (chain n x)
    unfolding trail_among
    chain_spares =
        let said = chain_says n x le whole in
        let none = is_false (chain n x).none (λ e.
        ⊎_elim (λ f. clash (sym (told.none.found (inl (fork_among compulsory_too f))))) (λ l. no_loop (loop_among compulsory_too l)) (said.none.holds e)) in (
          none,
          λ b a h.
              let s = standing b a h in
              (said.left none b a s.0 s.1).found (
                sub b a h,
                λ c. no_return c.length a b c.some c.fewer (trail_among compulsory_too c.trail) c.once h,
              ),
        )

-- ---- called by hand

module _ (t x : Work) (F : Fixpoint t) (I : Inside t x) where
  hand_inside : (r : Rule) → (bad x ≡ false → ((verdict x r).none ≡ false) × Subtable (rows_of t) (verdict x r).left) → Inside t (hand_call x r).work
  hand_inside r spared =
      hand_call_cases Keeps x r (λ _. I) (λ _ _. I) (λ b _.
      by_hand_cases Keeps x (verdict x r) (λ _. I) (λ e. absurd (not_both e (spared b).0)) (λ _ _. record { stations = I.stations; going = refl; sub = (spared b).1 }) (λ _ _. I))
    where
      Keeps : Called → Type 0
      Keeps c = Inside t c.work

  module _ (b : bad x ≡ false) where
    most : x.n ≤ 64
    most = (good x b).most

    clean_in : stray x.n (rows_of t) ≡ false
    clean_in = stray_sub x.n (rows_of x) (rows_of t) I.sub (good x b).table

  left_by : (r : Rule) → (says r t.n (rows_of t) t.limit ≡ leaves (rows_of t)) → says r x.n (rows_of t) t.limit ≡ leaves (rows_of t)
  left_by r e = ap (λ (n : ℕ). says r n (rows_of t) t.limit) I.stations ∙ e

  left_sweep : sweep x.n (rows_of t) ≡ leaves (rows_of t)
  unfolding says
  left_sweep = left_by Sweep (F Sweep refl)

  left_chain : chain x.n (rows_of t) ≡ leaves (rows_of t)
  unfolding says
  left_chain = left_by Chain (F Chain refl)

  pub sweep_inside : Inside t (hand_call x Sweep).work
  unfolding says
  sweep_inside = hand_inside Sweep (λ b. sweep_spares x.n (rows_of t) (most b) (clean_in b) left_sweep left_chain (rows_of x) I.sub (good x b).table)

  pub chain_inside : Inside t (hand_call x Chain).work
  unfolding says
  chain_inside = hand_inside Chain (λ b. chain_spares x.n (rows_of t) (most b) (clean_in b) left_sweep left_chain (rows_of x) I.sub (good x b).table)
