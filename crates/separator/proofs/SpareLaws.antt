-- What the words of a level's two sides say: the choices of the definition, and so the spare stations. Assumes nothing.
use mathlib.Core.Path.{◌≡◌, refl, sym, ap, ap₂, ◌∙◌}
use mathlib.Core.Logic.{⊎_elim}
use mathlib.Core.Bool.{Bool, true, false, not, ◌&&◌, and-false}
use mathlib.Core.List.{List}
use Prim.Native.Nat.{ℕ, suc, ◌^◌, ◌≤◌, ◌<◌}
use native.Mathlib.Nat.{lt_of_lt_of_le}
use native.Mathlib.Omega.{arith}
use Rattle.std.specs.Prelude.{Some, None}
use Rattle.bitset.specs.Sets.{has, any}
use Rattle.bitset.proofs.BoolLaws.{iff, cases, and_intro, and_l, and_r}
use Rattle.bitset.proofs.SetLaws.{set_of_elim, word_has}
use Rattle.bitset.proofs.HasLaws.{member_below}
use Rattle.bitset.proofs.QuantLaws.{any_intro, any_elim, any_ext, any_low}
use Rattle.circuit.specs.Legs.{leg}
use Rattle.circuit.specs.State.{stray}
use Rattle.bitset.specs.Upto.{row}
use Rattle.matching.specs.Matching.{Assignment}
use Rattle.separator.specs.declared.level.Spares.{Spares}
use Rattle.separator.specs.Components.{components}
use Rattle.separator.specs.Level.{Marking, marking, marked, marks, choice, out_may, in_may, takes, passable, struck}
use Rattle.separator.specs.Representatives.{Representatives, AllMarked, CanTake}
use Rattle.separator.specs.inner.Reach.{Listed}
use Rattle.separator.specs.inner.Spares.{Side, Settled, SparesOf}
use Rattle.separator.proofs.RepresentativeLaws.{choice_gives, choice_found}
use Rattle.separator.proofs.TakesLaws.{takes_gives, takes_found}
use Rattle.separator.proofs.MarkingLaws.{marked_pair}
use Rattle.separator.proofs.StandLaws.{last_is, marks_is, marks_bare}
use Rattle.separator.proofs.SideLaws.{side_at, settled_at}

-- what one side says: whether there is a choice, and then which stations can take a leg bare
abbrev SideSays : (n s p : ℕ) → (ℕ → ℕ → ℕ → Bool) → Bool → ℕ → Type 0
SideSays n s p may complete spare =
    (choice n s p may ≡ complete)
    × (complete ≡ true → (x y : ℕ) → x < n → has s x ≡ true → y < n → choice n s p (takes x y may) ≡ may x y 0 && has spare x)

-- ---- one side: `may` is the relation of the definition, `R` the one of the words

module _ (n s p : ℕ) (may R : ℕ → ℕ → ℕ → Bool) (most : n ≤ 64) (below : (k : ℕ) → has s k ≡ true → k < n)
    (agree : (x y m : ℕ) → x < n → y < n → m < suc p → may x y m ≡ R x y m)
    (only : (x y m : ℕ) → R x y m ≡ true → (has s x ≡ true) × (has s y ≡ true)) where
  row_any : (x m : ℕ) → x < n → m < suc p → any 64 (λ y. R x y m) ≡ any n (λ y. may x y m)
  row_any x m lx lm =
      any_low 64 n (λ y. R x y m) most (λ y ly e. below y (only x y m e).1) ∙ any_ext n _ _ (λ y ly. sym (agree x y m lx ly lm))

  module _ (fits : List ℕ) (some : ℕ) (S : Side R p fits some) where
    fits_can : (c x : ℕ) → c < p → has (row fits c) x ≡ true → CanTake n s p may c x
    fits_can c x l e =
        let r = set_of_elim 64 (λ x. any 64 (λ y. R x y (suc c))) x (ap (λ (w : ℕ). has w x) (sym (S.component c l)) ∙ e) in
        let y = any_elim 64 (λ y. R x y (suc c)) r.1 in
        let i = (only x y.0 (suc c) y.2).0 in
        (below x i, i, sym (row_any x (suc c) (below x i) (omega arith)) ∙ r.1)

    can_fits : (c x : ℕ) → c < p → CanTake n s p may c x → has (row fits c) x ≡ true
    can_fits c x l (lx, i, e) =
        word_has 64 (λ x. any 64 (λ y. R x y (suc c))) (S.component c l) x (lt_of_lt_of_le lx most)
        ∙ row_any x (suc c) lx (omega arith) ∙ e

    some_marked : (x : ℕ) → x < n → has some x ≡ any n (λ y. any (suc p) (may x y))
    some_marked x l =
        word_has 64 (λ x. any (suc p) (λ m. any 64 (λ y. R x y m))) S.any_mark x (lt_of_lt_of_le l most)
        ∙ any_ext (suc p) _ _ (λ m lm. row_any x m l lm)
        ∙ iff (any (suc p) (λ m. any n (λ y. may x y m))) (any n (λ y. any (suc p) (may x y)))
        (λ e.
        let m = any_elim (suc p) (λ m. any n (λ y. may x y m)) e in
        let y = any_elim n (λ y. may x y m.0) m.2 in
        any_intro n (λ y. any (suc p) (may x y)) y.0 y.1 (any_intro (suc p) (may x y.0) m.0 m.1 y.2))
        (λ e.
        let y = any_elim n (λ y. any (suc p) (may x y)) e in
        let m = any_elim (suc p) (may x y.0) y.2 in
        any_intro (suc p) (λ m. any n (λ y. may x y m)) m.0 m.1 (any_intro n (λ y. may x y m.0) y.0 y.1 m.2))

    -- an assignment is a system of distinct representatives
    represent : Assignment fits p → Representatives (CanTake n s p may) p
    represent a = record { of = a.to; can = λ c l. fits_can c (a.to c) l (a.good.fit c l); apart = a.good.apart }

    assign : Representatives (CanTake n s p may) p → Assignment fits p
    assign R = record { to = R.of; good = record { fit = λ c l. can_fits c (R.of c) l (R.can c l); apart = R.apart } }

    all_marked : ((x : ℕ) → has s x ≡ true → has some x ≡ true) → AllMarked n s p may
    all_marked M x l i = sym (some_marked x l) ∙ M x i

    module _ (complete : Bool) (spare : ℕ) (T : Settled fits p s some complete spare) where
      -- there is a choice just where the side is complete
      side_choice : choice n s p may ≡ complete
      side_choice = iff (choice n s p may) complete there back
        where
          back : complete ≡ true → choice n s p may ≡ true
          back e = let (M, a) = T.both.holds e in choice_found n s p may (all_marked M) (represent a)

          there : choice n s p may ≡ true → complete ≡ true
          there e = let (M, R) = choice_gives n s p may e in T.both.found (λ x i. some_marked x (below x i) ∙ M x (below x i) i, assign R)

      -- and then the spare stations are those that can take a leg bare
      side_takes : complete ≡ true → (x y : ℕ) → x < n → has s x ≡ true → y < n → choice n s p (takes x y may) ≡ may x y 0 && has spare x
      unfolding assign represent
      side_takes e x y l i ly = iff (choice n s p (takes x y may)) (may x y 0 && has spare x) there back
        where
          there : choice n s p (takes x y may) ≡ true → may x y 0 && has spare x ≡ true
          there f = let (on, M, R, out) = takes_gives n s p may x y l i f in and_intro on ((T.left e x).found (i, (assign R, out)))

          back : may x y 0 && has spare x ≡ true → choice n s p (takes x y may) ≡ true
          back f =
              let (_, (a, out)) = (T.left e x).holds (and_r (may x y 0) (has spare x) f) in
              takes_found n s p may x y ly (and_l (may x y 0) (has spare x) f) (all_marked (T.both.holds e).0) (represent a) out

      side_says : SideSays n s p may complete spare
      side_says = (side_choice, side_takes)

-- ---- both sides: the words of the code, for the table t, the level s and its p components

module _ (n : ℕ) (t : List ℕ) (most : n ≤ 64) (clean : stray n t ≡ false) (s : ℕ) (low : s < 2 ^ n)
    (p : ℕ) (parts : List ℕ) (L : Listed (components n t s) parts p) where
  abbrev d : Marking
  d = marking n t s

  last : p ≡ d.last
  last = last_is n t most clean s p parts L

  agree : (i j m : ℕ) → i < n → j < n → m < suc d.last → marks d i j m ≡ marked 64 t s parts i j m
  agree = marks_is n t most clean s p parts L

  -- both the out-choices and the in-choices can take the leg i→j bare
  bares : ℕ → ℕ → Bool
  bares i j = choice n s d.last (takes i j (out_may d)) && choice n s d.last (takes j i (in_may d))

  module _ (outs ins : List ℕ) (tails heads : ℕ) (So : Side (marked 64 t s parts) p outs tails) (Si : Side (λ x y. marked 64 t s parts y x) p ins heads) where
    out_says : (complete : Bool) (spare : ℕ) → Settled outs p s tails complete spare → SideSays n s d.last (out_may d) complete spare
    out_says complete spare To =
        side_says n s d.last (out_may d) (marked 64 t s parts) most (λ k. member_below n s k low) agree
        (marked_pair 64 t s parts) outs tails (side_at So last) complete spare (settled_at To last)

    in_says : (complete : Bool) (spare : ℕ) → Settled ins p s heads complete spare → SideSays n s d.last (in_may d) complete spare
    in_says complete spare Ti =
        side_says n s d.last (in_may d) (λ x y. marked 64 t s parts y x) most (λ k. member_below n s k low) (λ x y m lx ly. agree y x m ly lx)
        (λ x y m e. let f = marked_pair 64 t s parts y x m e in (f.1, f.0)) ins heads (side_at Si last) complete spare (settled_at Ti last)

    -- a side without a choice: the level allows nothing
    pub none_out : {spare : ℕ} → Settled outs p s tails false spare → SparesOf n t s None
    unfolding passable
    none_out {spare} To = record { verdict = ap (λ (x : Bool). x && choice n s d.last (in_may d)) (sym (out_says false spare To).0); strikes = tt }

    pub none_in : {spare : ℕ} → Settled ins p s heads false spare → SparesOf n t s None
    unfolding passable
    none_in {spare} Ti =
        record { verdict = sym (and-false _) ∙ ap (λ (x : Bool). choice n s d.last (out_may d) && x) (sym (in_says false spare Ti).0); strikes = tt }

    pub spares_of : (q : Spares) → Settled outs p s tails true q.out → Settled ins p s heads true q.into → SparesOf n t s (Some q)
    unfolding passable struck bares
    spares_of q To Ti =
        record {
          verdict = sym (ap₂ (λ (x y : Bool). x && y) out.0 into.0);
          strikes = λ i j li lj e. ⊎_elim
              (λ h. ap (λ (x : Bool). has s i && has s j && not x) (inner i j li lj e h))
              (λ h. ap (λ (x : Bool). x && not (bares i j)) h ∙ sym (ap (λ (x : Bool). x && not (has q.out i && has q.into j)) h))
              (cases (has s i && has s j));
        }
      where
        out : SideSays n s d.last (out_may d) true q.out
        out = out_says true q.out To

        into : SideSays n s d.last (in_may d) true q.into
        into = in_says true q.into Ti

        -- a leg inside s
        inner : (i j : ℕ) → i < n → j < n → leg t i j ≡ true → has s i && has s j ≡ true → bares i j ≡ has q.out i && has q.into j
        inner i j li lj e h =
            let hi : has s i ≡ true = and_l (has s i) (has s j) h in
            let hj : has s j ≡ true = and_r (has s i) (has s j) h in
            let m : marks d i j 0 ≡ true = marks_bare n t most clean s p parts L i j li lj e hi hj in
            ap₂ (λ (x y : Bool). x && y)
            (out.1 refl i j li hi lj ∙ ap (λ (x : Bool). x && has q.out i) m)
            (into.1 refl j i lj hj li ∙ ap (λ (x : Bool). x && has q.into j) m)
