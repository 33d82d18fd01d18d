-- The walks against the legs from the ends of the chains find what the definitions find along the legs. Assumes nothing.
use mathlib.Core.Path.{◌≡◌, refl, sym, ap, ◌∙◌, subst}
use mathlib.Core.Logic.{◌≢◌, ⊎_elim}
use mathlib.Core.Bool.{Bool, true, false, not, ◌&&◌, ◌||◌}
use mathlib.Core.List.{List}
use Prim.Native.Nat.{ℕ, zero, suc, pred, ◌≤◌, ◌<◌}
use native.Mathlib.Omega.{arith}
use lib.Dec.{eqb, ltb}
use lib.ListN.{get_or}
use borrow.Author.Tests.{eq-eqb, ne_eqb, ltb-true, ltb-false, lt-ltb, le-ltb, not-true}
use Rattle.bitset.specs.Sets.{has, any, first}
use Rattle.bitset.specs.Upto.{row}
use Rattle.bitset.proofs.BoolLaws.{iff, not_both, clash, cases, is_false, and_intro, and_l, and_r, or_l, or_r, or_cases, taut2, taut3}
use Rattle.bitset.proofs.FirstLaws.{first_at}
use Rattle.bitset.proofs.HasLaws.{has_zero, member_below}
use Rattle.bitset.proofs.QuantLaws.{below?, any_intro, any_elim, any_none}
use Rattle.bitset.proofs.SetLaws.{word_lt, some_member}
use Rattle.circuit.specs.Legs.{leg, col, columns, without}
use Rattle.circuit.specs.Round.{iter}
use Rattle.circuit.specs.inner.Tables.{Square}
use Rattle.circuit.proofs.Iterate.{iter_swap}
use Rattle.circuit.proofs.LegsLaws.{row_in, column_at, column_leg, columns_square, without_ext}
use Rattle.filter.specs.Chain.{compulsory, compulsories, forked, nexts, along, joined, looped, closes}
use Rattle.filter.specs.inner.Chains.{closed, ChainsOf, ShortLoop}
use Rattle.filter.proofs.MateLaws.{Mates, mates_swap, early, same_start, turned, entered, walk_short, everywhere}
use Rattle.filter.proofs.NextLaws.{joined_intro, joined_elim, next_at, next_leg, same_previous, leg_next}

-- ---- stations on loops: a step leads in, and no walk against the steps meets them from an end

module _ {n : ℕ} {f g : ℕ → ℕ} (m : Mates n f g) where
  -- at most n - 2 steps back lead from an end, where a step leads in and none out, to a
  record Met (a : ℕ) : Type 0 where
    end : ℕ
    steps : ℕ
    into : g end < n
    out : n ≤ f end
    short : steps ≤ pred (pred n)
    leads : iter g steps end ≡ a

  record Left (a : ℕ) : Type 0 where
    into : g a < n
    unmet : Met a → ⊥

  left_on : (a : ℕ) → Left a → (f a < n) × Left (f a)
  left_on a h = (out, record { into = subst (λ (x : ℕ). x < n) (sym t.1) t.0; unmet = unmet })
    where
      out : f a < n
      out = ⊎_elim (λ l. l) (λ l. absurd (h.unmet (record { end = a; steps = 0; into = h.into; out = l; short = omega arith; leads = refl }))) (below? (f a) n)

      t : (a < n) × (g (f a) ≡ a)
      t = m.there a out

      unmet : Met (f a) → ⊥
      unmet e =
          let one : iter g (suc e.steps) e.end ≡ a = ap g e.leads ∙ t.1 in
          let few : suc (suc e.steps) < n = walk_short (mates_swap m) (suc (suc e.steps)) e.end e.out (subst (λ (x : ℕ). g x < n) (sym one) h.into) in
          h.unmet (record { end = e.end; steps = suc e.steps; into = e.into; out = e.out; short = omega arith; leads = one })

  left_stays : (a k : ℕ) → a < n → Left a → (iter f k a < n) × Left (iter f k a)
  left_stays a zero l h = (l, h)
  left_stays a (suc k) l h = left_on (iter f k a) (left_stays a k l h).1

  -- where some loop is shorter than n, a station that is left comes back in fewer than n steps
  left_loop : (a b k : ℕ) → a < n → b < n → Left a → 0 < k → k < n → iter f k b ≡ b → ((d : ℕ) → 0 < d → d < n → iter f d a ≢ a) → ⊥
  left_loop a b k la lb h p l e away =
      let i = everywhere m a (λ k q. (left_stays a k la h).0) away b lb in
      away k p l (same_start m i.0 (iter f k a) a (left_stays a i.0 la h).0 (iter_swap f i.0 k a ∙ ap (iter f k) i.2 ∙ e ∙ sym i.2))

  -- a station on a loop is left
  loop_left : (a k : ℕ) → a < n → 0 < k → iter f k a ≡ a → Left a
  loop_left a k l p e = record { into = entered m k a p l e; unmet = unmet }
    where
      unmet : Met a → ⊥
      unmet h =
          let le : h.end < n = (m.back h.end h.into).0 in
          let on : iter f h.steps a ≡ h.end = turned (mates_swap m) h.steps h.end a l h.leads in
          let again : iter f k h.end ≡ h.end = ap (iter f k) (sym on) ∙ iter_swap f k h.steps a ∙ ap (iter f h.steps) e ∙ on in
          let out : f h.end < n = entered (mates_swap m) k h.end p le (turned m k h.end h.end le again) in
          omega (arith, h.out)

-- ---- the lists of the next stations of a table and of its columns

-- a word has members where the list leads on
some_next : (n : ℕ) (u : List ℕ) → Square n u → (a : ℕ) → a < n → ltb 0 (row u a) ≡ ltb (get_or (nexts n u) a n) n
unfolding leg
some_next n u sq a l = iff (ltb 0 (row u a)) (ltb (get_or (nexts n u) a n) n) there back
  where
    there : ltb 0 (row u a) ≡ true → ltb (get_or (nexts n u) a n) n ≡ true
    there e =
        let p : 0 < row u a = ltb-true 0 (row u a) e in
        let w = some_member n (row u a) (λ k. member_below n (row u a) k (sq a l)) (ne_eqb (row u a) 0 (λ z. omega arith)) in
        lt-ltb (get_or (nexts n u) a n) n (subst (λ (x : ℕ). x < n) (sym (next_at n u a l)) (first_at n (leg u a) w.0 w.1 w.2).0)

    back : ltb (get_or (nexts n u) a n) n ≡ true → ltb 0 (row u a) ≡ true
    back e =
        let k = get_or (nexts n u) a n in
        let h : has (row u a) k ≡ true = (next_leg n u a (ltb-true k n e)).1 in
        ⊎_elim (lt-ltb 0 (row u a)) (λ z. let q : row u a ≡ 0 = omega arith in clash (sym h ∙ ap (λ (w : ℕ). has w k) q ∙ has_zero k)) (below? 0 (row u a))

module _ (n : ℕ) (m : List ℕ) (le : n ≤ 64) where
  abbrev next : ℕ → ℕ
  next i = get_or (nexts n m) i n

  abbrev prev : ℕ → ℕ
  prev j = get_or (nexts n (columns n m)) j n

  pub mates : forked n m ≡ false → Mates n next prev
  mates one = record { there = there; back = back }
    where
      there : (i : ℕ) → next i < n → (i < n) × (prev (next i) ≡ i)
      there i l =
          let h = next_leg n m i l in
          let f = first_at n (leg (columns n m) (next i)) i h.0 (column_leg n m le i (next i) h.0 l ∙ h.1) in
          let k = first n (leg (columns n m) (next i)) in
          (h.0, next_at n (columns n m) (next i) l ∙ same_previous n m one (next i) k i l f.0 h.0 (sym (column_leg n m le k (next i) f.0 l) ∙ f.1) h.1)

      back : (j : ℕ) → prev j < n → (j < n) × (next (prev j) ≡ j)
      back j l =
          let h = next_leg n (columns n m) j l in
          (h.0, leg_next n m one (prev j) j l h.0 (sym (column_leg n m le (prev j) j l h.0) ∙ h.1))

  pub joined_turned : forked n m ≡ false → (f a b : ℕ) → a < n → b < n → joined n (nexts n m) f a b ≡ joined n (nexts n (columns n m)) f b a
  joined_turned one f a b la lb =
      iff (joined n (nexts n m) f a b) (joined n (nexts n (columns n m)) f b a)
      (λ e. let r = joined_elim n (nexts n m) f a b e in joined_intro n (nexts n (columns n m)) f b a r.0 r.1 r.2 (turned (mates one) r.0 a b lb r.3))
      (λ e. let r = joined_elim n (nexts n (columns n m)) f b a e in joined_intro n (nexts n m) f a b r.0 r.1 r.2 (turned (mates_swap (mates one)) r.0 b a la r.3))

-- ---- the words that the code finds

-- w has the stations below n that have a leg in the table u
abbrev pub Marks : ℕ → List ℕ → ℕ → Type 0
Marks n u w = (a : ℕ) → a < n → has w a ≡ ltb 0 (row u a)

pub compulsories_square : (n : ℕ) (t : List ℕ) → n ≤ 64 → Square n (compulsories n t)
unfolding compulsories
compulsories_square n t le i l = word_lt n (compulsory t (columns n t) i) (row_in n (compulsory t (columns n t)) i le l)

zero_test : (w : ℕ) → eqb w 0 ≡ not (ltb 0 w)
zero_test w =
    ⊎_elim (λ l. ne_eqb w 0 (λ z. omega arith) ∙ ap not (sym (lt-ltb 0 w l))) (λ g. eq-eqb w 0 (omega arith) ∙ ap not (sym (le-ltb 0 w g))) (below? 0 w)

closing_tests : (a b c d : Bool) → (d ≡ true → c ≡ true) → not a && not b && d ≡ (c && not b) && d && not a
closing_tests a b c true f = taut2 (λ a b. not a && not b && true) (λ a b. not b && true && not a) refl a b ∙ ap (λ (c : Bool). c && not b && true && not a) (sym (f refl))
closing_tests a b c false f = taut3 (λ a b c. not a && not b && false) (λ a b c. c && not b && false && not a) refl a b c

module _ (n : ℕ) (m : List ℕ) (le : n ≤ 64) (sq : Square n m) (one : forked n m ≡ false) (into out ends : ℕ)
    (enter : Marks n (columns n m) into) (leave : Marks n m out) (last : (b : ℕ) → b < n → has ends b ≡ has into b && not (has out b)) where
  abbrev s : List ℕ
  s = nexts n m

  abbrev p : List ℕ
  p = nexts n (columns n m)

  abbrev pair : Mates n (λ i. get_or s i n) (λ j. get_or p j n)
  pair = mates n m le one

  into_is : (a : ℕ) → a < n → has into a ≡ ltb (get_or p a n) n
  into_is a l = enter a l ∙ some_next n (columns n m) (columns_square n m le) a l

  out_is : (a : ℕ) → a < n → has out a ≡ ltb (get_or s a n) n
  out_is a l = leave a l ∙ some_next n m sq a l

  -- ---- chains

  pub closes_turned : (b a : ℕ) → b < n → a < n → closes n m s b a ≡ has ends b && joined n p (pred (pred n)) b a && not (has into a)
  unfolding closes
  closes_turned b a lb la =
      rw (zero_test (col n m a), ← column_at n m le a la, ← enter a la, zero_test (row m b), ← leave b lb, joined_turned n m le one (pred (pred n)) a b la lb, last b lb)
      (closing_tests (has into a) (has out b) (has into b) (joined n p (pred (pred n)) b a) enters)
    where
      enters : joined n p (pred (pred n)) b a ≡ true → has into b ≡ true
      enters e =
          let k = joined_elim n p (pred (pred n)) b a e in
          into_is b lb ∙ lt-ltb (get_or p b n) n (early (mates_swap pair) 1 k.0 b k.1 (subst (λ (x : ℕ). x < n) (sym k.3) la))

  pub closing_table : (t words : List ℕ) (met : ℕ) → ChainsOf n p into ends words met → without n t (closed ends words) ≡ without n t (closes n m s)
  closing_table t words met c = without_ext n t (closed ends words) (closes n m s) (λ b a lb la. c.closing b a lb la ∙ sym (closes_turned b a lb la))

  -- ---- loops

  end_is : (b : ℕ) → b < n → has ends b ≡ true → (get_or p b n < n) × (n ≤ get_or s b n)
  end_is b l e =
      let h = sym (last b l) ∙ e in
      (ltb-true (get_or p b n) n (sym (into_is b l) ∙ and_l (has into b) (not (has out b)) h), ltb-false (get_or s b n) n (sym (out_is b l) ∙ not-true (has out b) (and_r (has into b) (not (has out b)) h)))

  is_end : (b : ℕ) → b < n → get_or p b n < n → n ≤ get_or s b n → has ends b ≡ true
  is_end b l i o = last b l ∙ and_intro (into_is b l ∙ lt-ltb (get_or p b n) n i) (ap not (out_is b l ∙ le-ltb (get_or s b n) n o))

  module _ (words : List ℕ) (met : ℕ) (c : ChainsOf n p into ends words met) (rest : ℕ) (others : (a : ℕ) → a < n → has rest a ≡ has into a && not (has met a)) where
    abbrev chained : ℕ → ℕ → Bool
    chained a b = has ends b && joined n p (pred (pred n)) b a

    met_is : (a : ℕ) → a < n → has met a ≡ true → Met pair a
    met_is a l e = ⊎_elim own far (or_cases (has ends a) (any n (chained a)) (sym (c.met a l) ∙ e))
      where
        own : has ends a ≡ true → Met pair a
        own h = let f = end_is a l h in record { end = a; steps = 0; into = f.0; out = f.1; short = omega arith; leads = refl }

        far : any n (chained a) ≡ true → Met pair a
        far h =
            let b = any_elim n (chained a) h in
            let f = end_is b.0 b.1 (and_l (has ends b.0) (joined n p (pred (pred n)) b.0 a) b.2) in
            let k = joined_elim n p (pred (pred n)) b.0 a (and_r (has ends b.0) (joined n p (pred (pred n)) b.0 a) b.2) in
            record { end = b.0; steps = k.0; into = f.0; out = f.1; short = k.2; leads = k.3 }

    is_met : (a : ℕ) → a < n → Met pair a → has met a ≡ true
    is_met a l h = c.met a l ∙ go h.steps h.short h.leads
      where
        low : h.end < n
        low = (pair.back h.end h.into).0

        end : has ends h.end ≡ true
        end = is_end h.end low h.into h.out

        go : (k : ℕ) → k ≤ pred (pred n) → along n p k h.end ≡ a → has ends a || any n (chained a) ≡ true
        go zero q e = or_l (any n (chained a)) (ap (has ends) (sym e) ∙ end)
        go (suc k) q e = or_r (has ends a) (any_intro n (chained a) h.end low (and_intro end (joined_intro n p (pred (pred n)) h.end a (suc k) (omega arith) q e)))

    rest_left : (a : ℕ) → a < n → has rest a ≡ true → Left pair a
    rest_left a l e =
        let h = sym (others a l) ∙ e in
        record {
          into = ltb-true (get_or p a n) n (sym (into_is a l) ∙ and_l (has into a) (not (has met a)) h);
          unmet = λ q. not_both (is_met a l q) (not-true (has met a) (and_r (has into a) (not (has met a)) h));
        }

    left_rest : (a : ℕ) → a < n → Left pair a → has rest a ≡ true
    left_rest a l h =
        others a l ∙ and_intro (into_is a l ∙ lt-ltb (get_or p a n) n h.into) (ap not (is_false (has met a) (λ e. h.unmet (met_is a l e))))

    pub loop_none : ((a : ℕ) → a < n → has rest a ≡ false) → looped n s ≡ false
    unfolding looped
    loop_none none =
        any_none n (λ a. joined n s (pred n) a a) (λ a l. is_false (joined n s (pred n) a a) (λ e.
        let k = joined_elim n s (pred n) a a e in
        not_both (left_rest a l (loop_left pair a k.0 l k.1 k.3)) (none a l)))

    pub loop_some : (a : ℕ) → a < n → has rest a ≡ true → looped n s ≡ joined n p (pred n) a a
    unfolding looped
    loop_some a l h = iff (looped n s) (joined n s (pred n) a a) there (any_intro n (λ a. joined n s (pred n) a a) a l) ∙ joined_turned n m le one (pred n) a a l l
      where
        there : looped n s ≡ true → joined n s (pred n) a a ≡ true
        there e = ⊎_elim (λ q. q) none (cases (joined n s (pred n) a a))
          where
            none : joined n s (pred n) a a ≡ false → joined n s (pred n) a a ≡ true
            none q =
                let b = any_elim n (λ a. joined n s (pred n) a a) e in
                let k = joined_elim n s (pred n) b.0 b.0 b.2 in
                absurd (left_loop pair a b.0 k.0 l b.1 (rest_left a l h) k.1 (omega (arith, k.2)) k.3
                (λ d p i back. not_both (joined_intro n s (pred n) a a d p (omega arith) back) q))

    -- so the code's test is that of the definition
    pub short_loop : (q : Bool) → ShortLoop n p rest q → q ≡ looped n s
    short_loop q w = ⊎_elim some none (below? 0 rest)
      where
        some : 0 < rest → q ≡ looped n s
        some h = let a = w.some h in a.3 ∙ sym (loop_some a.0 a.1 a.2)

        none : rest ≤ 0 → q ≡ looped n s
        none h = let z : rest ≡ 0 = omega arith in w.empty z ∙ sym (loop_none (λ a l. ap (λ (v : ℕ). has v a) z ∙ has_zero a))
