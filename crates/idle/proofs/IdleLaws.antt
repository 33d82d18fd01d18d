-- A level leaves the table as it is, where each station outside it is in a group with a pivot, and the pairs by way of the pivots settle it. A component may have more
-- groups than one and more pairs than its groups know of: all that counts is that each component has a group of its own. Assumes nothing.
use mathlib.Core.Path.{◌≡◌, refl, sym, ap, ◌∙◌, subst}
use mathlib.Core.Logic.{◌≢◌, ◌⊎◌, inl, inr, ⊎_elim}
use mathlib.Core.Bool.{Bool, true, false, not, ◌&&◌}
use mathlib.Core.List.{List}
use Prim.Native.Nat.{ℕ, suc, ◌+◌, ◌^◌, ◌≤◌, ◌<◌}
use native.Mathlib.Bridge.{le_prop}
use native.Mathlib.Nat.{not-le_of_lt}
use native.Mathlib.Numerals.{add-one}
use native.Mathlib.Omega.{arith}
use lib.ListN.{length}
use Rattle.bitset.specs.Sets.{has}
use Rattle.bitset.specs.Upto.{row}
use Rattle.bitset.proofs.BoolLaws.{not_both, cases, and_intro, cond_true}
use Rattle.bitset.proofs.HasLaws.{member_below}
use Rattle.bitset.proofs.QuantLaws.{below?, at_or_below, any_intro}
use Rattle.circuit.specs.Legs.{leg, without}
use Rattle.circuit.specs.Verdict.{says_none, leaves}
use Rattle.circuit.specs.inner.Tables.{Columned}
use Rattle.circuit.proofs.LegsLaws.{column_leg, table_of_ext}
use Rattle.circuit.proofs.StateLaws.{stray_self, without_none}
use Rattle.matching.specs.Matching.{Assignment, LeftOut}
use Rattle.separator.specs.Choice.{bare, through, Walk, stay, step, Outside, Labels, Passage, label_of}
use Rattle.separator.specs.Components.{components}
use Rattle.separator.specs.Connected.{Free}
use Rattle.separator.specs.Level.{Marking, marking, choice, out_may, in_may, takes, passable, struck, level}
use Rattle.separator.specs.Representatives.{Representatives, AllMarked, CanTake}
use Rattle.idle.specs.inner.Groups.{Along, LedTo, Pairs, Settles}
use Rattle.separator.specs.inner.Reach.{Linked}
use Rattle.separator.proofs.ConnectedLaws.{components_connected}
use Rattle.separator.proofs.MarkLaws.{labelled, same_near, same_label, out_back, in_back}
use Rattle.separator.proofs.NeighbourLaws.{linked_elim}
use Rattle.separator.proofs.RepresentativeLaws.{choice_found}
use Rattle.idle.proofs.StrongLaws.{out_marked, in_marked}
use Rattle.separator.proofs.TakesLaws.{takes_found}
use Rattle.separator.proofs.WalkLaws.{walk_end, walk_on, walk_keeps, walk_back}

-- what is known of a group outside s: `tails` and `heads` are ends of pairs of s by way of its pivot
pub record Certified (n : ℕ) (t cols nbr : List ℕ) (s tails heads : ℕ) : Type 0 where
  pub room : ℕ
  pub pivot : ℕ
  pub part : ℕ
  pub free : (x : ℕ) → has room x ≡ true → Free n s x
  pub hangs : (x : ℕ) → has part x ≡ true → Along nbr room pivot x
  pub pairs : Pairs t cols room s pivot tails heads

-- a choice below m, as a function
picked : {P : ℕ → ℕ → Type 0} (m : ℕ) → ((c : ℕ) → c < m → (g : ℕ) × P c g) → (f : ℕ → ℕ) × ((c : ℕ) → c < m → P c (f c))
picked {P} m pick = (λ c. at c (below? c m), λ c l. good c l (below? c m))
  where
    at : (c : ℕ) → (c < m) ⊎ (m ≤ c) → ℕ
    at c (inl l) = (pick c l).0
    at c (inr g) = 0

    good : (c : ℕ) → c < m → (b : (c < m) ⊎ (m ≤ c)) → P c (at c b)
    good c l (inl k) = (pick c k).1
    good c l (inr g) = absurd (not-le_of_lt l g)

module _ (n : ℕ) (t cols nbr : List ℕ) (T : Columned n t cols) (L : Linked n t nbr) (s : ℕ) (low : s < 2 ^ n) where
  abbrev label : ℕ → ℕ
  label = label_of n t s

  abbrev d : Marking
  d = marking n t s

  -- how many components there are
  abbrev count : ℕ
  count = length (components n t s)

  below : (x : ℕ) → has s x ≡ true → x < n
  below x = member_below n s x low

  back_leg : (i j : ℕ) → i < n → j < n → leg cols i j ≡ leg t j i
  back_leg i j li lj = ap (λ (x : List ℕ). leg x i j) T.columns ∙ column_leg n t L.most j i lj li

  same_back : Labels n (has s) label (leg cols)
  same_back x y lx ly ox oy e = sym (same_label n t s y x ly lx oy ox (sym (back_leg x y lx ly) ∙ e))

  -- ---- one group

  module _ {tails heads : ℕ} (G : Certified n t cols nbr s tails heads) where
    -- the component of the pivot
    abbrev own : ℕ
    own = label G.pivot

    -- the group is in it
    pub part_label : (x : ℕ) → has G.part x ≡ true → own ≡ label x
    part_label x h =
        walk_keeps (λ y. own ≡ label y)
        (λ a b ia ib e q. q ∙ same_near n t s a b (G.free a ia).0 (G.free b ib).0 (G.free a ia).1 (G.free b ib).1 (linked_elim L a b e).2)
        (G.hangs x h) refl

    -- and so are the walks from the pivot
    walk_own : {R : ℕ → ℕ → Bool} → Labels n (has s) label R → {x : ℕ} → Walk R (λ x. has G.room x ≡ true) G.pivot x → Walk R (Outside n (has s) label own) G.pivot x
    walk_own same (stay k) = stay (record { below = (G.free _ k).0; out = (G.free _ k).1; has = refl })
    walk_own same (step {d = x} {e = y} w r k) =
        let v = walk_own same w in
        let f = G.free y k in
        let o = walk_end v in
        step v r (record { below = f.0; out = f.1; has = sym (same x y o.below f.0 o.out f.1 r) ∙ o.has })

    -- by way of the pivot
    passage : (x y : ℕ) → x < n → LedTo cols G.room G.pivot x → LedTo t G.room G.pivot y → Passage n (has s) label (leg t) own x y
    passage x y lx (a, v, e) (b, w, f) =
        let u = walk_own same_back v in
        record {
          enter = a;
          leave = b;
          leg_in = sym (back_leg a x (walk_end u).below lx) ∙ e;
          walk = walk_on (walk_back (λ i j oi oj r. sym (back_leg i j oi.below oj.below) ∙ r) u) (walk_own (same_label n t s) w);
          leg_out = f;
        }

    tail_can : (x : ℕ) → has tails x ≡ true → CanTake n s count (out_may d) own x
    tail_can x e =
        let (hx, A, (y, hy, B, ne)) = G.pairs.tail x e in
        let lx = below x hx in
        let ly = below y hy in
        (lx, hx, any_intro n (λ y. out_may d x y (suc own)) y ly (out_back n t s (through own) x y lx ly hx hy ne (passage x y lx A B)))

    head_can : (x : ℕ) → has heads x ≡ true → CanTake n s count (in_may d) own x
    head_can x e =
        let (hx, A, (y, hy, B, ne)) = G.pairs.head x e in
        let lx = below x hx in
        let ly = below y hy in
        (lx, hx, any_intro n (λ y. in_may d x y (suc own)) y ly (in_back n t s (through own) x y lx ly hx hy ne (passage y x ly B A)))

  -- ---- all groups

  module _ (p : ℕ) (out into : List ℕ) (C : (g : ℕ) → g < p → Certified n t cols nbr s (row out g) (row into g))
      (covers : (x : ℕ) → Free n s x → (g : ℕ) × (l : g < p) × (has (C g l).part x ≡ true)) where
    -- the group g is in the component c
    abbrev GroupOf : ℕ → ℕ → Type 0
    GroupOf c g = (l : g < p) × (own (C g l) ≡ c)

    -- each component has one, and no two have the same
    some_group : (c : ℕ) → c < count → (g : ℕ) × GroupOf c g
    some_group c l =
        let K = components_connected n t s in
        let (x, m) = K.some c l in
        let (g, k, e) = covers x (K.free c x m) in
        (g, (k, part_label (C g k) x e ∙ (labelled n t s c x m).has))

    one_component : (c e g : ℕ) → GroupOf c g → GroupOf e g → c ≡ e
    one_component c e g (k, q) (l, r) = sym q ∙ ap (λ (z : g < p). own (C g z)) (le_prop k l) ∙ r

    group_of : (f : ℕ → ℕ) × ((c : ℕ) → c < count → GroupOf c (f c))
    group_of = picked count some_group

    -- ---- one side, out or in: an assignment of the groups gives the components representatives

    module _ (may : ℕ → ℕ → ℕ → Bool) (M : AllMarked n s count may) (fits : List ℕ)
        (fit : (g : ℕ) (l : g < p) (x : ℕ) → has (row fits g) x ≡ true → CanTake n s count may (own (C g l)) x) where
      represent : Assignment fits p → Representatives (CanTake n s count may) count
      represent a =
          record {
            of = λ c. a.to (group_of.0 c);
            can = λ c l.
                let (k, q) = group_of.1 c l in
                let x = a.to (group_of.0 c) in
                subst (λ (b : ℕ). CanTake n s count may b x) q (fit (group_of.0 c) k x (a.good.fit (group_of.0 c) k));
            apart = λ b c lb lc e.
                let B = group_of.1 b lb in
                let D = group_of.1 c lc in
                let q = a.good.apart (group_of.0 b) (group_of.0 c) B.0 D.0 e in
                one_component b c (group_of.0 c) (subst (GroupOf b) q B) D;
          }

      side_choice : Assignment fits p → choice n s count may ≡ true
      side_choice a = choice_found n s count may M (represent a)

      side_takes : (x y : ℕ) → y < n → may x y 0 ≡ true → LeftOut fits p x → choice n s count (takes x y may) ≡ true
      unfolding represent
      side_takes x y ly e (a, none) = takes_found n s count may x y ly e M (represent a) (λ c l. none (group_of.0 c) (group_of.1 c l).0)

    -- ---- the level

    module _ (some : (x : ℕ) × Free n s x) (strong : (i j : ℕ) → i < n → j < n → Walk (leg t) (λ x. x < n) i j)
        (outs : Settles out p s cols) (ins : Settles into p s t) where
      -- a station that is given to a group has another one in its pair
      two : (a : ℕ) × (b : ℕ) × (has s a ≡ true) × (has s b ≡ true) × (b ≢ a)
      two =
          let (x, f) = some in
          let (g, l, _) = covers x f in
          let a = outs.some.to g in
          let (ha, _, (b, hb, _, ne)) = (C g l).pairs.tail a (outs.some.good.fit g l) in
          (a, b, ha, hb, ne)

      marked_out : AllMarked n s count (out_may d)
      marked_out = let (a, b, ha, hb, ne) = two in out_marked n t s strong below a b ha hb ne

      marked_in : AllMarked n s count (in_may d)
      marked_in = let (a, b, ha, hb, ne) = two in in_marked n t s strong below a b ha hb ne

      out_can : (g : ℕ) (l : g < p) (x : ℕ) → has (row out g) x ≡ true → CanTake n s count (out_may d) (own (C g l)) x
      out_can g l = tail_can (C g l)

      in_can : (g : ℕ) (l : g < p) (x : ℕ) → has (row into g) x ≡ true → CanTake n s count (in_may d) (own (C g l)) x
      in_can g l = head_can (C g l)

      goes : passable n s d ≡ true
      unfolding passable marking
      goes = and_intro (side_choice (out_may d) marked_out out out_can outs.some) (side_choice (in_may d) marked_in into in_can ins.some)

      -- both sides can take a leg inside s bare
      bares : (i j : ℕ) → i < n → j < n → leg t i j ≡ true → has s i ≡ true → has s j ≡ true
          → choice n s count (takes i j (out_may d)) && choice n s count (takes j i (in_may d)) ≡ true
      bares i j li lj e hi hj =
          let ne : j ≢ i = λ q. not_both e (ap (leg t i) q ∙ stray_self n t L.most T.clean i li) in
          and_intro
          (side_takes (out_may d) marked_out out out_can i j lj (out_back n t s bare i j li lj hi hj ne e) (outs.spare i j hi hj (back_leg j i lj li ∙ e)))
          (side_takes (in_may d) marked_in into in_can j i li (in_back n t s bare j i lj li hj hi (λ q. ne (sym q)) e) (ins.spare j i hj hi e))

      kept : (i j : ℕ) → i < n → j < n → leg t i j ≡ true → struck n s d i j ≡ false
      unfolding struck marking
      kept i j li lj e = inside (has s i) (has s j) refl refl
        where
          both : Bool
          both = choice n s count (takes i j (out_may d)) && choice n s count (takes j i (in_may d))

          inside : (a b : Bool) → has s i ≡ a → has s j ≡ b → a && b && not both ≡ false
          inside false b hi hj = refl
          inside true false hi hj = refl
          inside true true hi hj = ap not (bares i j li lj e hi hj)

      -- so no leg goes
      whole : without n t (struck n s d) ≡ t
      unfolding without
      whole =
          table_of_ext n (λ i j. leg t i j && not (struck n s d i j)) (λ i j. leg t i j && true) (λ i j li lj. ⊎_elim
          (λ e. ap (λ (b : Bool). leg t i j && not b) (kept i j li lj e))
          (λ e. ap (λ (b : Bool). b && not (struck n s d i j)) e ∙ sym (ap (λ (b : Bool). b && true) e))
          (cases (leg t i j)))
          ∙ without_none n t (λ _ _. false) L.most T.clean T.len (λ _ _ _ _. refl)

      pub level_idle : level n t s ≡ leaves t
      unfolding level
      level_idle = cond_true (leaves (without n t (struck n s d))) (says_none t) goes ∙ ap leaves whole

  -- ---- q groups and one more

  module _ (q : ℕ) (out into : List ℕ) (each : (g : ℕ) → g < q → Certified n t cols nbr s (row out g) (row into g))
      (more : Certified n t cols nbr s (row out q) (row into q))
      (covers : (x : ℕ) → Free n s x → ((g : ℕ) × (l : g < q) × (has (each g l).part x ≡ true)) ⊎ (has more.part x ≡ true)) where
    abbrev one_of : (g : ℕ) → (g ≡ q) ⊎ (g < q) → Certified n t cols nbr s (row out g) (row into g)
    one_of g (inl e) =
        record {
          room = more.room;
          pivot = more.pivot;
          part = more.part;
          free = more.free;
          hangs = more.hangs;
          pairs = subst (λ (h : ℕ). Pairs t cols more.room s more.pivot (row out h) (row into h)) (sym e) more.pairs;
        }
    one_of g (inr l) = each g l

    which : (g : ℕ) → g < q + 1 → (g ≡ q) ⊎ (g < q)
    which g l = at_or_below (subst (λ (m : ℕ). g < m) (add-one q) l)

    at_more : (x : ℕ) (b : (q ≡ q) ⊎ (q < q)) → has more.part x ≡ true → has (one_of q b).part x ≡ true
    at_more x (inl e) h = h
    at_more x (inr l) h = let no : ⊥ = omega arith in absurd no

    at_each : (g x : ℕ) (l : g < q) (b : (g ≡ q) ⊎ (g < q)) → has (each g l).part x ≡ true → has (one_of g b).part x ≡ true
    at_each g x l (inl e) h = let no : ⊥ = omega arith in absurd no
    at_each g x l (inr k) h = subst (λ (z : g < q). has (each g z).part x ≡ true) (le_prop l k) h

    found : (x : ℕ) → Free n s x → (g : ℕ) × (l : g < q + 1) × (has (one_of g (which g l)).part x ≡ true)
    found x f =
        ⊎_elim
        (λ (g, l, h). let k : g < q + 1 = omega arith in (g, k, at_each g x l (which g k) h))
        (λ h. let k : q < q + 1 = omega arith in (q, k, at_more x (which q k) h))
        (covers x f)

    pub level_idle_more : (x : ℕ) × Free n s x → ((i j : ℕ) → i < n → j < n → Walk (leg t) (λ x. x < n) i j)
        → Settles out (q + 1) s cols → Settles into (q + 1) s t → level n t s ≡ leaves t
    level_idle_more = level_idle (q + 1) out into (λ g l. one_of g (which g l)) found
