-- The search finds the first round, and finds none only where there is none. Assumes nothing.
use mathlib.Core.Path.{◌≡◌, refl, sym, ap, ◌∙◌, subst}
use mathlib.Core.Logic.{◌⊎◌, inl, inr, ⊎_elim}
use mathlib.Core.Bool.{Bool, true, false}
use mathlib.Core.List.{List}
use Prim.Native.Nat.{ℕ, zero, suc, ◌-◌, ◌≤◌, ◌<◌, zero-le}
use native.Mathlib.Omega.{arith}
use native.Mathlib.Nat.{eq-or-lt_of_le, le_of_suc-le-suc, le_of_eq, not-suc-le-zero, le_refl}
use lib.Dec.{eqb}
use lib.Count.{count_trailing_zeros}
use borrow.Author.Tests.{eqb-true, eqb-false}
use Rattle.bitset.specs.Sets.{has}
use Rattle.bitset.specs.Upto.{row}
use Rattle.bitset.proofs.BoolLaws.{cases, clash, not_both}
use Rattle.bitset.proofs.HasLaws.{has_zero}
use Rattle.bitset.proofs.LeastLaws.{trailing_least}
use Rattle.bitset.proofs.QuantLaws.{below?}
use Rattle.circuit.specs.declared.state.Work.{Work}
use Rattle.circuit.specs.Legs.{leg}
use Rattle.circuit.specs.Round.{RoundOf}
use Rattle.circuit.specs.State.{is_none, rows_of}
use Rattle.circuit.specs.Check.{choice_of, ListsRound, check_call}
use Rattle.circuit.proofs.CheckLaws.{list_round, round_yes}
use Rattle.circuit.proofs.Turn.{round_ext}
use Rattle.finder.specs.Search.{Search, nothing, entered, children, settled, decided, list_in, leaf, search_from}
use Rattle.finder.specs.First.{Before}
use Rattle.finder.proofs.ChildrenLaws.{Chosen, children_none, children_found}
use Rattle.finder.proofs.DecideLaws.{sub_round}
use Rattle.finder.proofs.NodeLaws.{Node, settled_n, settled_sub, settled_good, settled_word, settled_round, none_true, child, child_n, child_sub, child_round, child_drives}

-- ---- the search by cases

module _ (w : Work) where
  pub search_end : (u : ℕ) → is_none (settled w).end ≡ true → search_from u w ≡ entered nothing
  unfolding search_from
  search_end zero e = rw e
  search_end (suc u) e = rw e

  pub search_leaf : is_none (settled w).end ≡ false → search_from zero w ≡ entered (leaf (settled w))
  unfolding search_from
  search_leaf e = rw e

  pub search_below : (u : ℕ) → is_none (settled w).end ≡ false
      → search_from (suc u) w ≡ entered (children (λ j. search_from u (decided (settled w) (w.n - suc u) j)) (leg (rows_of (settled w)) (w.n - suc u)) 64 0)
  unfolding search_from
  search_below u e = rw e

  pub some_node : (u : ℕ) → 0 < (search_from u w).nodes
  unfolding search_from
  some_node zero = omega arith
  some_node (suc u) = omega arith

pub leaf_yes : (v : Work) → (check_call v (list_in v.n (rows_of v))).yes ≡ true → leaf v ≡ record { found = true; list = list_in v.n (rows_of v); nodes = 0 }
unfolding leaf
leaf_yes v e = rw e

pub leaf_no : (v : Work) → (check_call v (list_in v.n (rows_of v))).yes ≡ false → leaf v ≡ nothing
unfolding leaf
leaf_no v e = rw e

-- ---- what a part of the search says of the rounds of its table

-- where y agrees with x before k, x is no greater at k
abbrev pub NotLater : ℕ → (ℕ → ℕ) → (ℕ → ℕ) → Type 0
NotLater n x y = (k : ℕ) → k < n → ((i : ℕ) → i < k → x i ≡ y i) → x k ≤ y k

pub record Tells (n : ℕ) (t : List ℕ) (s : Search) : Type 0 where
  pub lists : s.found ≡ true → ListsRound n t s.list
  pub first : s.found ≡ true → (y : ℕ → ℕ) → RoundOf n t y → NotLater n (choice_of s.list) y
  pub none : s.found ≡ false → (y : ℕ → ℕ) → RoundOf n t y → ⊥

tells_entered : (n : ℕ) (t : List ℕ) (s : Search) → Tells n t s → Tells n t (entered s)
tells_entered n t s h = record { lists = h.lists; first = h.first; none = h.none }

tells_nothing : (n : ℕ) (t : List ℕ) → ((y : ℕ → ℕ) → RoundOf n t y → ⊥) → Tells n t nothing
tells_nothing n t f = record { lists = λ e. clash (sym e); first = λ e. clash (sym e); none = λ _. f }

-- ---- a node with all stations decided

positive : (r k : ℕ) → has r k ≡ true → 0 < r
positive zero k e = absurd (not_both e (has_zero k))
positive (suc r) k e = omega arith

module _ (w : Work) (a : Node 0 w) where
  abbrev v : Work
  v = settled w

  same_n : v.n ≡ w.n
  same_n = settled_n w

  abbrev list : List ℕ
  list = list_in v.n (rows_of v)

  -- each row has one leg at most, so its lowest station is where a round goes
  lowest_is : (y : ℕ → ℕ) → RoundOf w.n (rows_of v) y → (i : ℕ) → i < w.n → count_trailing_zeros 64 (row (rows_of v) i) ≡ y i
  unfolding leg
  lowest_is y r i l =
      let legs : ℕ = row (rows_of v) i in
      let here : has legs (y i) ≡ true = r.drives i l in
      let t = trailing_least 64 legs (positive legs (y i) here) (settled_word w a.begun i l) in
      a.one i (omega (arith, l)) (count_trailing_zeros 64 legs) (y i) (settled_sub w i (count_trailing_zeros 64 legs) t.member) (settled_sub w i (y i) here)

  yes_tells : (check_call v list).yes ≡ true → Tells w.n (rows_of w) (record { found = true; list = list; nodes = 0 })
  yes_tells q =
      let L = subst (λ (n : ℕ). ListsRound n (rows_of v) list) same_n (list_round v list q).1 in
      let r = sub_round w.n (rows_of v) (rows_of w) (choice_of list) (settled_sub w) L.round in
      record {
        lists = λ _. record { numbers = L.numbers; round = r };
        first = λ _ y ry k l _. le_of_eq (a.one k (omega (arith, l)) (choice_of list k) (y k) (r.drives k l) (ry.drives k l));
        none = λ z. clash z;
      }

  no_tells : (check_call v list).yes ≡ false → (y : ℕ → ℕ) → RoundOf w.n (rows_of w) y → ⊥
  unfolding list_in
  no_tells q y ry =
      let r = settled_round w y ry in
      let g = settled_good w a.begun in
      let ry : RoundOf v.n (rows_of v) y = subst (λ (n : ℕ). RoundOf n (rows_of v) y) (sym same_n) r in
      let some : 0 < v.n = omega (arith, g.two) in
      not_both (round_yes v (λ i. count_trailing_zeros 64 (row (rows_of v) i)) g (round_ext ry some (λ i l. lowest_is y r i (omega (arith, same_n, l))))) q

  leaf_tells : Tells w.n (rows_of w) (leaf v)
  leaf_tells =
      ⊎_elim (λ (q : (check_call v list).yes ≡ true). subst (Tells w.n (rows_of w)) (sym (leaf_yes v q)) (yes_tells q))
      (λ (q : (check_call v list).yes ≡ false). subst (Tells w.n (rows_of w)) (sym (leaf_no v q)) (tells_nothing w.n (rows_of w) (no_tells q)))
      (cases (check_call v list).yes)

-- ---- a node with children

module _ (u : ℕ) (w : Work) (a : Node (suc u) w)
    (below : (j : ℕ) → leg (rows_of (settled w)) (w.n - suc u) j ≡ true
    → Tells w.n (rows_of (decided (settled w) (w.n - suc u) j)) (search_from u (decided (settled w) (w.n - suc u) j))) where
  abbrev d : ℕ
  d = w.n - suc u

  abbrev rows : ℕ → List ℕ
  rows j = rows_of (decided (settled w) d j)

  abbrev f : ℕ → Search
  f j = search_from u (decided (settled w) d j)

  abbrev p : ℕ → Bool
  p = leg (rows_of (settled w)) d

  low : d < w.n
  low = omega (arith, a.fits)

  goes : (y : ℕ → ℕ) → RoundOf w.n (rows_of w) y → p (y d) ≡ true
  goes y r = (settled_round w y r).drives d low

  -- a round of the node is one of the child that it goes to
  goes_to : (y : ℕ → ℕ) (r : RoundOf w.n (rows_of w) y) (j : ℕ) (h : p j ≡ true) → y d ≡ j → RoundOf w.n (rows j) y
  goes_to y r j h e = child_round u w a j h y r e

  -- so a child that is passed by has none
  not_there : (y : ℕ → ℕ) → RoundOf w.n (rows_of w) y → (f (y d)).found ≡ false → ⊥
  not_there y r e = (below (y d) (goes y r)).none e y (goes_to y r (y d) (goes y r) refl)

  module _ (s : Search) (found : s.found ≡ true) (c : Chosen f p 0 s) where
    abbrev x : ℕ → ℕ
    x = choice_of s.list

    listed : ListsRound w.n (rows c.at) s.list
    listed = subst (ListsRound w.n (rows c.at)) (sym c.same) ((below c.at c.passes).lists c.has)

    round : RoundOf w.n (rows_of w) x
    round = sub_round w.n (rows c.at) (rows_of w) x (child_sub u w a c.at c.passes) listed.round

    at_d : x d ≡ c.at
    at_d = child_drives u w a c.at c.passes x listed.round low

    -- a round that goes further up at d: before d both have the one leg of the row
    later : (y : ℕ → ℕ) → RoundOf w.n (rows_of w) y → c.at < y d → NotLater w.n x y
    later y r after k l g =
        ⊎_elim (λ (m : k < d). le_of_eq (a.one k m (x k) (y k) (round.drives k l) (r.drives k l)))
        (λ (m : d ≤ k).
        ⊎_elim (λ (q : d ≡ k). subst (λ (i : ℕ). x i ≤ y i) q (omega (arith, at_d, after)))
        (λ (q : d < k). absurd (let z : ⊥ = omega (arith, g d q, at_d, after) in z)) (eq-or-lt_of_le m)) (below? k d)

    first : (y : ℕ → ℕ) → RoundOf w.n (rows_of w) y → NotLater w.n x y
    first y r =
        ⊎_elim (λ (less : y d < c.at). absurd (not_there y r (c.earlier (y d) zero-le less (goes y r))))
        (λ (more : c.at ≤ y d).
        ⊎_elim
        (λ (same : c.at ≡ y d).
        subst (λ (l : List ℕ). NotLater w.n (choice_of l) y) (sym c.same) ((below c.at c.passes).first c.has y (goes_to y r c.at c.passes (sym same))))
        (later y r) (eq-or-lt_of_le more)) (below? (y d) c.at)

    some_tells : Tells w.n (rows_of w) s
    some_tells = record { lists = λ _. record { numbers = listed.numbers; round = round }; first = λ _. first; none = λ z. absurd (not_both found z) }

  children_tells : Tells w.n (rows_of w) (children f p 64 0)
  children_tells =
      let s : Search = children f p 64 0 in
      ⊎_elim (λ (e : s.found ≡ true). some_tells s e (children_found f p 64 0 e))
      (λ (e : s.found ≡ false).
      record {
        lists = λ z. absurd (not_both z e);
        first = λ z. absurd (not_both z e);
        none = λ _ y r. not_there y r (children_none f p 64 0 e (y d) zero-le (omega (arith, r.stays d low, a.begun.good.most)) (goes y r));
      })
      (cases s.found)

-- ---- every node

-- what holds of a node whose run ends none, and of what is below one whose run does not, holds of the search from it
by_end : (P : Search → Type 0) (u : ℕ) (w : Work) (s : Search) → (is_none (settled w).end ≡ true → P (entered nothing)) → (is_none (settled w).end ≡ false → search_from u w ≡ entered s)
    → (is_none (settled w).end ≡ false → P (entered s)) → P (search_from u w)
by_end P u w s ends is on =
    ⊎_elim (λ (e : is_none (settled w).end ≡ true). subst P (sym (search_end w u e)) (ends e)) (λ (e : is_none (settled w).end ≡ false). subst P (sym (is e)) (on e))
    (cases (is_none (settled w).end))

pub search_tells : (u : ℕ) (w : Work) → Node u w → Tells w.n (rows_of w) (search_from u w)
search_tells zero w a =
    by_end (Tells w.n (rows_of w)) zero w (leaf (settled w)) (λ e. tells_entered w.n (rows_of w) nothing (tells_nothing w.n (rows_of w) (none_true w a.begun e)))
    (search_leaf w) (λ _. tells_entered w.n (rows_of w) (leaf (settled w)) (leaf_tells w a))
search_tells (suc u) w a =
    by_end (Tells w.n (rows_of w)) (suc u) w _ (λ e. tells_entered w.n (rows_of w) nothing (tells_nothing w.n (rows_of w) (none_true w a.begun e)))
    (search_below w u)
    (λ _. tells_entered w.n (rows_of w) _ (children_tells u w a (λ j h.
    subst (λ (n : ℕ). Tells n (rows_of (decided (settled w) (w.n - suc u) j)) (search_from u (decided (settled w) (w.n - suc u) j))) (child_n u w a j h)
    (search_tells u (decided (settled w) (w.n - suc u) j) (child u w a j h)))))

-- where a round is found, each undecided station is decided at a level of its own
pub search_deep : (u : ℕ) (w : Work) → (search_from u w).found ≡ true → u < (search_from u w).nodes
search_deep zero w = λ _. some_node w 0
search_deep (suc u) w =
    by_end (λ (s : Search). s.found ≡ true → suc u < s.nodes) (suc u) w _ (λ _ e. clash (sym e)) (search_below w u)
    (λ _ e. let c = children_found _ _ 64 0 e in omega (arith, c.counts, search_deep u (decided (settled w) (w.n - suc u) c.at) c.has))

-- ---- compared station by station

differ : (n : ℕ) (x y : ℕ → ℕ) → ((i : ℕ) → i < n → x i ≡ y i) ⊎ ((k : ℕ) × (k < n) × ((i : ℕ) → i < k → x i ≡ y i) × (x k ≡ y k → ⊥))
differ zero x y = inl (λ i l. absurd (not-suc-le-zero l))
differ (suc n) x y = go (differ n x y) (cases (eqb (x n) (y n)))
  where
    go : ((i : ℕ) → i < n → x i ≡ y i) ⊎ ((k : ℕ) × (k < n) × ((i : ℕ) → i < k → x i ≡ y i) × (x k ≡ y k → ⊥)) → (eqb (x n) (y n) ≡ true) ⊎ (eqb (x n) (y n) ≡ false)
        → ((i : ℕ) → i < suc n → x i ≡ y i) ⊎ ((k : ℕ) × (k < suc n) × ((i : ℕ) → i < k → x i ≡ y i) × (x k ≡ y k → ⊥))
    go (inr r) q = inr (r.0, omega (arith, r.1), r.2, r.3)
    go (inl h) (inl q) = inl (λ i l. ⊎_elim (λ (z : i ≡ n). ap x z ∙ eqb-true (x n) (y n) q ∙ ap y (sym z)) (λ (z : i < n). h i z) (eq-or-lt_of_le (le_of_suc-le-suc l)))
    go (inl h) (inr q) = inr (n, le_refl (suc n), h, eqb-false (x n) (y n) q)

pub before : (n : ℕ) (x y : ℕ → ℕ) → NotLater n x y → Before n x y
before n x y h =
    ⊎_elim (λ e. inl e)
    (λ r. inr (r.0, r.1, r.2, ⊎_elim (λ (z : x r.0 ≡ y r.0). absurd (r.3 z)) (λ (z : x r.0 < y r.0). z) (eq-or-lt_of_le (h r.0 r.1 r.2))))
    (differ n x y)
