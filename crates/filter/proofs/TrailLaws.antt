-- The tests of the chain step are the paper's notions, and it says what the paper asks. Assumes nothing.
use mathlib.Core.Path.{◌≡◌, refl, sym, ap, ◌∙◌, subst}
use mathlib.Core.Logic.{◌≢◌, ◌⊎◌, inl, inr, ⊎_elim}
use mathlib.Core.Bool.{Bool, true, false, not, ◌&&◌, ◌||◌}
use mathlib.Core.List.{List}
use Prim.Native.Nat.{ℕ, zero, suc, ◌^◌, ◌≤◌, ◌<◌}
use native.Mathlib.Nat.{le_refl, le_of_suc-le-suc, eq-or-lt_of_le, not-suc-le-zero}
use native.Mathlib.Omega.{arith}
use lib.Dec.{eqb, ltb}
use lib.ListN.{length, get_or}
use borrow.Author.Tests.{eqb-true, eqb-false, eq-eqb, ltb-true, not-true}
use Rattle.bitset.specs.Sets.{has, any, first, size}
use Rattle.bitset.specs.Tests.{Decides}
use Rattle.bitset.specs.Upto.{row}
use Rattle.bitset.proofs.BoolLaws.{not_both, cases, clash, is_false, and_intro, and_l, and_r, or_l, or_r, or_cases, or_false_l, or_false_r, or_none, cond_elim, cond_false}
use Rattle.bitset.proofs.FirstLaws.{first_at, before_first}
use Rattle.bitset.proofs.HasLaws.{has_zero}
use Rattle.bitset.proofs.OnesLaws.{count_le, size_one}
use Rattle.bitset.proofs.QuantLaws.{any_intro, any_elim, any_false}
use Rattle.bitset.proofs.SetLaws.{set_of_lt, has_set_of, none_zero, no_member, has_self}
use Rattle.circuit.specs.Legs.{leg, col, columns, without}
use Rattle.circuit.specs.State.{stray}
use Rattle.circuit.specs.Verdict.{says_none, leaves}
use Rattle.circuit.proofs.LegsLaws.{table_of_leg, leg_table_of, column_leg}
use Rattle.circuit.proofs.StateLaws.{stray_row_lem, without_none}
use Rattle.filter.specs.Chain.{compulsory, compulsories, forked, nexts, along, joined, looped, closes, chain}
use Rattle.filter.specs.Trail.{Compulsory, Splits, Fork, Trail, Different, Loop, Closing, ChainSays}
use Rattle.filter.proofs.OnlyLaws.{row_only, column_only, only_row, only_column}
use Rattle.filter.proofs.NextLaws.{joined_intro, joined_elim, next_leg, same_next, same_previous, leg_next}

-- ---- compulsory legs

module _ (n : ℕ) (t : List ℕ) (le : n ≤ 64) where
  compulsory_out : (i j : ℕ) → i < n → j < n → eqb (row t i) (2 ^ j) ≡ true → Compulsory n t i j
  unfolding leg
  compulsory_out i j li lj e =
      let is = eqb-true (row t i) (2 ^ j) e in record { from = li; to = lj; stands = ap (λ (w : ℕ). has w j) is ∙ has_self j; only = inl (row_only n t i j is) }

  compulsory_in : (i j : ℕ) → i < n → j < n → eqb (row (columns n t) j) (2 ^ i) ≡ true → Compulsory n t i j
  unfolding leg
  compulsory_in i j li lj e =
      let is = eqb-true (row (columns n t) j) (2 ^ i) e in
      record { from = li; to = lj; stands = sym (column_leg n t le i j li lj) ∙ ap (λ (w : ℕ). has w i) is ∙ has_self i; only = inr (column_only n t le i j lj is) }

  pub compulsory_holds : (i j : ℕ) → leg (compulsories n t) i j ≡ true → Compulsory n t i j
  unfolding compulsories compulsory
  compulsory_holds i j e =
      let f = table_of_leg n (compulsory t (columns n t)) i j e in
      ⊎_elim (compulsory_out i j f.0 f.1) (compulsory_in i j f.0 f.1) (or_cases _ _ f.2)

  compulsory_found : stray n t ≡ false → (i j : ℕ) → Compulsory n t i j → compulsory t (columns n t) i j ≡ true
  unfolding compulsory
  compulsory_found clean i j c =
      ⊎_elim (λ only. or_l (eqb (row (columns n t) j) (2 ^ i)) (eq-eqb (row t i) (2 ^ j) (only_row n t i j (stray_row_lem n t le clean i c.from) c.to c.stands only)))
      (λ only. or_r (eqb (row t i) (2 ^ j)) (eq-eqb (row (columns n t) j) (2 ^ i) (only_column n t le i j c.to c.from c.stands only))) c.only

  pub compulsory_test : stray n t ≡ false → (i j : ℕ) → Decides (leg (compulsories n t) i j) (Compulsory n t i j)
  unfolding compulsories
  compulsory_test clean i j =
      record { holds = compulsory_holds i j; found = λ c. leg_table_of n (compulsory t (columns n t)) i j le c.from c.to ∙ compulsory_found clean i j c }

-- ---- forks

-- two legs leave a station whose set of next stations has two members or more
splits : (n : ℕ) (L : ℕ → ℕ → Type 0) (i w : ℕ) → ((k : ℕ) → k < n → has w k ≡ true → L i k) → 1 < size n w → Splits L
unfolding size
splits n L i w leads more = ⊎_elim some none (cases (any n (has w)))
  where
    none : any n (has w) ≡ false → Splits L
    none e = absurd (omega (arith, more, size_one n w 0 (omega (arith, more, count_le n (has w))) (λ k l q. absurd (not_both q (any_false n (has w) k e l)))))

    some : any n (has w) ≡ true → Splits L
    some e = let f = any_elim n (has w) e in go f.0 f.1 f.2 (cases (any n (λ k. not (eqb k f.0) && has w k)))
      where
        go : (j : ℕ) → j < n → has w j ≡ true → (any n (λ k. not (eqb k j) && has w k) ≡ true) ⊎ (any n (λ k. not (eqb k j) && has w k) ≡ false) → Splits L
        go j l e (inl q) =
            let g = any_elim n (λ k. not (eqb k j) && has w k) q in
            let k = g.0 in
            record {
              station = i;
              next = k;
              other = j;
              leads = leads k g.1 (and_r (not (eqb k j)) (has w k) g.2);
              leads_too = leads j l e;
              differ = eqb-false k j (not-true (eqb k j) (and_l (not (eqb k j)) (has w k) g.2));
            }
        go j l e (inr q) =
            absurd (omega (
              arith,
              more,
              size_one n w j l (λ k lk d.
                  ⊎_elim (λ (s : eqb k j ≡ true). eqb-true k j s) (λ (s : eqb k j ≡ false). absurd (not_both (and_intro (ap not s) d) (any_false n (λ k. not (eqb k j) && has w k) k q lk))) (cases (eqb k j))),
            ))

-- ---- of the legs L of a table m, all between stations below n

module _ (n : ℕ) (m : List ℕ) (L : ℕ → ℕ → Type 0) (is : (i j : ℕ) → Decides (leg m i j) (L i j)) (inside : (i j : ℕ) → L i j → (i < n) × (j < n)) where
  abbrev s : List ℕ
  s = nexts n m

  pub fork_test : Decides (forked n m) (Fork L)
  unfolding forked leg col
  fork_test =
      record {
        holds = λ e.
            let f = any_elim n (λ i. ltb 1 (size n (row m i)) || ltb 1 (size n (col n m i))) e in
            let i = f.0 in
            ⊎_elim
            (λ q. inl (splits n L i (row m i) (λ k l h. (is i k).holds h) (ltb-true 1 (size n (row m i)) q)))
            (λ q. inr (splits n (λ j i. L i j) i (col n m i) (λ k l h. (is k i).holds (sym (has_set_of n (λ j. leg m j i) k l) ∙ h)) (ltb-true 1 (size n (col n m i)) q)))
            (or_cases (ltb 1 (size n (row m i))) (ltb 1 (size n (col n m i))) f.2);
        found = λ f. ⊎_elim (λ e. e) (λ e. absurd (⊎_elim (not_out e) (not_in e) f)) (cases (forked n m));
      }
    where
      not_out : forked n m ≡ false → Splits L → ⊥
      not_out e f =
          let i = f.station in
          let j = f.next in
          let k = f.other in
          f.differ (same_next n m e i j k (inside i j f.leads).0 (inside i j f.leads).1 (inside i k f.leads_too).1 ((is i j).found f.leads) ((is i k).found f.leads_too))

      not_in : forked n m ≡ false → Splits (λ j i. L i j) → ⊥
      not_in e f =
          let i = f.station in
          let j = f.next in
          let k = f.other in
          f.differ (same_previous n m e i j k (inside j i f.leads).1 (inside j i f.leads).0 (inside k i f.leads_too).0 ((is j i).found f.leads) ((is k i).found f.leads_too))

  -- where the list leads to a station, it leads along a trail
  along_before : (k i a : ℕ) → i ≤ k → along n s k a < n → along n s i a < n
  along_before zero zero a h l = l
  along_before zero (suc i) a h l = absurd (not-suc-le-zero h)
  along_before (suc k) i a h l =
      ⊎_elim (λ (e : i ≡ suc k). subst (λ (k : ℕ). along n s k a < n) (sym e) l) (λ (g : i < suc k). along_before k i a (le_of_suc-le-suc g) (next_leg n m (along n s k a) l).0) (eq-or-lt_of_le h)

  along_trail : (k a b : ℕ) → b < n → along n s k a ≡ b → Trail L k a b
  along_trail k a b l e =
      record {
        at = λ i. along n s i a;
        starts = refl;
        ends = e;
        legs = λ i h. (is (along n s i a) (along n s (suc i) a)).holds (next_leg n m (along n s i a) (along_before k (suc i) a h (subst (λ (x : ℕ). x < n) (sym e) l))).1;
      }

  -- ---- where no two legs leave or enter one station

  module _ (one : forked n m ≡ false) where
    -- the list of the next stations leads along a trail
    trail_along : {k a b : ℕ} (T : Trail L k a b) (i : ℕ) → i ≤ k → along n s i a ≡ T.at i
    trail_along T zero l = sym T.starts
    trail_along T (suc i) l =
        let x = T.at i in
        let y = T.at (suc i) in
        let d = T.legs i l in
        ap (λ (x : ℕ). get_or s x n) (trail_along T i (omega arith)) ∙ leg_next n m one x y (inside x y d).0 (inside x y d).1 ((is x y).found d)

    trail_joined : (f k a b : ℕ) → 1 ≤ k → k ≤ f → Trail L k a b → joined n s f a b ≡ true
    trail_joined f k a b p l T = joined_intro n s f a b k p l (trail_along T k (le_refl k) ∙ T.ends)

    -- the first r stations are different where the start does not come again: if one came again, so would the one before it, back to the start
    different : {k a b : ℕ} (T : Trail L k a b) (r : ℕ) → r ≤ suc k → ((d : ℕ) → suc d < r → T.at (suc d) ≢ a) → Different T.at r
    different T r h away zero zero li lj e = refl
    different T r h away zero (suc j) li lj e = absurd (away j lj (sym e ∙ T.starts))
    different T r h away (suc i) zero li lj e = absurd (away i li (e ∙ T.starts))
    different T r h away (suc i) (suc j) li lj e =
        let x = T.at i in
        let y = T.at j in
        let z = T.at (suc j) in
        let p = subst (L x) e (T.legs i (omega arith)) in
        let q = T.legs j (omega arith) in
        ap suc (different T r h away i j (omega arith) (omega arith) (same_previous n m one z x y (inside y z q).1 (inside x z p).0 (inside y z q).0 ((is x z).found p) ((is y z).found q)))

    -- ---- loops

    loop_found : Loop n L → looped n s ≡ true
    unfolding looped
    loop_found l =
        let T = l.trail in
        let d = T.legs 0 l.some in
        any_intro n _ l.start (subst (λ (a : ℕ). a < n) T.starts (inside (T.at 0) (T.at 1) d).0)
        (trail_joined _ l.length l.start l.start l.some (omega (arith, l.fewer)) T)

    -- the shortest walk of at most f legs, f below n, from a station back to it is a loop
    loop_at : (f a : ℕ) → f < n → a < n → joined n s f a a ≡ true → Loop n L
    unfolding joined along_trail
    loop_at f a few l e =
        let k = any_elim f back e in
        let g = first_at f back k.0 k.1 k.2 in
        let T = along_trail (suc least) a a l (eqb-true (along n s (suc least) a) a g.1) in
        record {
          start = a;
          length = suc least;
          some = omega arith;
          fewer = omega (arith, g.0);
          trail = T;
          once = different T (suc least) (omega arith) (λ d h. eqb-false (along n s (suc d) a) a (before_first f back d (le_of_suc-le-suc h)));
        }
      where
        back : ℕ → Bool
        back k = eqb (along n s (suc k) a) a

        least : ℕ
        least = first f back

    pub loop_test : Decides (looped n s) (Loop n L)
    unfolding looped
    loop_test = record { holds = λ e. let a = any_elim n _ e in loop_at _ a.0 (omega (arith, a.1)) a.1 a.2; found = loop_found }

    -- ---- chains

    module _ (b a : ℕ) where
      none_in : eqb (col n m a) 0 ≡ true → (i : ℕ) → L i a → ⊥
      unfolding col
      none_in e i d =
          let l = (inside i a d).0 in
          not_both (has_set_of n (λ i. leg m i a) i l ∙ (is i a).found d) (ap (λ (w : ℕ). has w i) (eqb-true (col n m a) 0 e) ∙ has_zero i)

      none_out : eqb (row m b) 0 ≡ true → (j : ℕ) → L b j → ⊥
      unfolding leg
      none_out e j d = not_both ((is b j).found d) (ap (λ (w : ℕ). has w j) (eqb-true (row m b) 0 e) ∙ has_zero j)

      no_column : ((i : ℕ) → L i a → ⊥) → eqb (col n m a) 0 ≡ true
      unfolding col
      no_column f =
          eq-eqb (col n m a) 0
          (none_zero n (col n m a) (set_of_lt n (λ i. leg m i a)) (λ i l. has_set_of n (λ i. leg m i a) i l ∙ is_false (leg m i a) (λ e. f i ((is i a).holds e))))

      no_row : ((j : ℕ) → L b j → ⊥) → eqb (row m b) 0 ≡ true
      unfolding leg
      no_row f = eq-eqb (row m b) 0 (no_member (row m b) (λ j. is_false (leg m b j) (λ e. f j ((is b j).holds e))))

      pub closing_test : b < n → Decides (closes n m s b a) (Closing n L b a)
      unfolding closes
      closing_test l = record { holds = holds; found = found }
        where
          found : Closing n L b a → closes n m s b a ≡ true
          found c =
              and_intro (and_intro (no_column c.first) (no_row c.last))
              (trail_joined _ c.length a b c.some (omega (arith, c.fewer)) c.trail)

          holds : closes n m s b a ≡ true → Closing n L b a
          holds e =
              let ends = and_l (eqb (col n m a) 0 && eqb (row m b) 0) _ e in
              let first = none_in (and_l (eqb (col n m a) 0) (eqb (row m b) 0) ends) in
              let g = joined_elim n s _ a b (and_r (eqb (col n m a) 0 && eqb (row m b) 0) _ e) in
              let k = g.0 in
              let T = along_trail k a b l g.3 in
              record {
                length = k;
                some = g.1;
                fewer = omega (arith, g.1, g.2);
                trail = T;
                once = different T (suc k) (le_refl (suc k)) (λ d h q. first (T.at d) (subst (L (T.at d)) q (T.legs d (le_of_suc-le-suc h))));
                first = first;
                last = none_out (and_r (eqb (col n m a) 0) (eqb (row m b) 0) ends);
              }

-- ---- of the compulsory legs

module _ (n : ℕ) (t : List ℕ) (le : n ≤ 64) (clean : stray n t ≡ false) where
  abbrev m : List ℕ
  m = compulsories n t

  abbrev goes : ℕ → ℕ → Bool
  goes = closes n m (nexts n m)

  inside : (i j : ℕ) → Compulsory n t i j → (i < n) × (j < n)
  inside i j c = (c.from, c.to)

  pub forked_test : Decides (forked n m) (Fork (Compulsory n t))
  forked_test = fork_test n m (Compulsory n t) (compulsory_test n t le clean) inside

  pub looped_test : forked n m ≡ false → Decides (looped n (nexts n m)) (Loop n (Compulsory n t))
  looped_test = loop_test n m (Compulsory n t) (compulsory_test n t le clean) inside

  pub closes_test : forked n m ≡ false → (b a : ℕ) → b < n → Decides (goes b a) (Closing n (Compulsory n t) b a)
  closes_test = closing_test n m (Compulsory n t) (compulsory_test n t le clean) inside

  -- without compulsory legs nothing goes
  pub chain_idle : length t ≡ 64 → ((i j : ℕ) → Compulsory n t i j → ⊥) → chain n t ≡ leaves t
  unfolding chain
  chain_idle len free =
      cond_false (says_none t) (leaves (without n t goes)) (or_none one none)
      ∙ ap leaves (without_none n t goes le clean len (λ b a lb la. is_false (goes b a) (λ e. let c = (closes_test one b a lb).holds e in free _ _ (c.trail.legs 0 c.some))))
    where
      one : forked n m ≡ false
      one = is_false (forked n m) (λ e. ⊎_elim (λ f. free _ _ f.leads) (λ f. free _ _ f.leads) (forked_test.holds e))

      none : looped n (nexts n m) ≡ false
      none = is_false (looped n (nexts n m)) (λ e. let l = (looped_test one).holds e in free _ _ (l.trail.legs 0 l.some))

  pub chain_says : ChainSays n t (chain n t)
  unfolding chain without
  chain_says = cond_elim (ChainSays n t) (forked n m || looped n (nexts n m)) (says_none t) (leaves (without n t goes)) none some
    where
      none : forked n m || looped n (nexts n m) ≡ true → ChainSays n t (says_none t)
      none e = record { none = record { holds = λ _. why (cases (forked n m)); found = λ _. refl }; stays = λ _. refl; left = λ q. clash q }
        where
          why : (forked n m ≡ true) ⊎ (forked n m ≡ false) → Fork (Compulsory n t) ⊎ Loop n (Compulsory n t)
          why (inl f) = inl (forked_test.holds f)
          why (inr f) = inr ((looped_test f).holds (sym (ap (λ (b : Bool). b || looped n (nexts n m)) f) ∙ e))

      some : forked n m || looped n (nexts n m) ≡ false → ChainSays n t (leaves (without n t goes))
      some e =
          let one = or_false_l (forked n m) (looped n (nexts n m)) e in
          record {
            none = record {
              holds = λ q. clash (sym q);
              found = λ f.
                  absurd (⊎_elim (λ f. not_both (forked_test.found f) one) (λ l. not_both ((looped_test one).found l) (or_false_r (forked n m) (looped n (nexts n m)) e)) f);
            };
            stays = λ q. clash (sym q);
            left = λ _ b a lb la.
                let is = leg_table_of n (λ i j. leg t i j && not (goes i j)) b a le lb la in
                let test = closes_test one b a lb in
                record {
                  holds = λ q.
                      let both = sym is ∙ q in
                      (and_l (leg t b a) (not (goes b a)) both, λ c. not_both (test.found c) (not-true (goes b a) (and_r (leg t b a) (not (goes b a)) both)));
                  found = λ q. is ∙ and_intro q.0 (ap not (is_false (goes b a) (λ c. q.1 (test.holds c))));
                };
          }
