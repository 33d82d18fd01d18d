-- The levels of a seed by their places in an array: each station is in one, and has a neighbour in the level before. Assumes nothing.
use mathlib.Core.Path.{◌≡◌, refl, sym, ap, ◌∙◌, subst}
use mathlib.Core.Logic.{⊎_elim}
use mathlib.Core.Bool.{true, false, ◌&&◌}
use mathlib.Core.List.{List, [], ◌∷◌}
use Prim.Native.Nat.{ℕ, zero, suc, ◌+◌, ◌^◌, ◌≤◌, ◌<◌}
use native.Mathlib.Nat.{not-suc-le-zero}
use native.Mathlib.Omega.{arith}
use lib.Bits.{bit_or}
use lib.Dec.{eqb}
use lib.ListN.{length, take}
use lib.Pow.{pow-lt, pow_pos}
use lib.Seq.{get_or-take, length-take-le}
use Rattle.bitset.specs.Sets.{has, join}
use Rattle.bitset.specs.Upto.{row}
use Rattle.bitset.proofs.BoolLaws.{clash, not_both, and_l, and_r, or_l, or_r, or_cases, or_false_l, cond_elim}
use Rattle.bitset.proofs.QuantLaws.{below?, any_elim}
use Rattle.bitset.proofs.HasLaws.{has_zero, has_or, member_below}
use Rattle.bitset.proofs.SetLaws.{set_of_elim, has_self, has_one, has_join, minus_elim}
use Rattle.circuit.specs.Legs.{neighbours}
use Rattle.separator.specs.Choice.{stay, step}
use Rattle.separator.specs.Levels.{neighbourhood, levels_from, levels, reached, unreached}
use Rattle.idle.specs.inner.Groups.{Along, Spans}
use Rattle.separator.specs.inner.Reach.{Linked}
use Rattle.separator.proofs.InnerLaws.{level_below}
use Rattle.separator.proofs.NeighbourLaws.{leads, linked_intro}
use Rattle.separator.proofs.ReachLaws.{next_level, from_more, all_reached}

-- ---- the levels from `last` on

none_has : {A : Type 0} (k x : ℕ) → has (row [] k) x ≡ true → A
none_has k x e = clash (sym e ∙ has_zero x)

module _ (n : ℕ) (t : List ℕ) where
  abbrev later : ℕ → ℕ → ℕ → List ℕ
  later f seen last = levels_from f n t (join n seen (next_level n t seen last)) (next_level n t seen last)

  -- the first of them, if there is one
  from_first : (f seen last x : ℕ) → has (row (levels_from f n t seen last) 0) x ≡ true → has last x ≡ true
  unfolding levels_from
  from_first zero seen last x = none_has 0 x
  from_first (suc f) seen last x =
      cond_elim (λ (ls : List ℕ). has (row ls 0) x ≡ true → has last x ≡ true) (eqb last 0) [] (last ∷ later f seen last) (λ _. none_has 0 x) (λ _ e. e)

  -- a station of a later one has a neighbour in the one before
  abbrev Joins : List ℕ → ℕ → ℕ → Type 0
  Joins ls k x = has (row ls (suc k)) x ≡ true → (y : ℕ) × (has (row ls k) y ≡ true) × (neighbours t y x ≡ true)

  from_joined : (f seen last k x : ℕ) → Joins (levels_from f n t seen last) k x
  unfolding levels_from neighbourhood
  from_joined zero seen last k x = none_has (suc k) x
  from_joined (suc f) seen last k x =
      cond_elim (λ (ls : List ℕ). Joins ls k x) (eqb last 0) [] (last ∷ later f seen last) (λ _. none_has (suc k) x)
      (λ _. at (λ k. from_joined f _ (next_level n t seen last) k x) k)
    where
      at : ((k : ℕ) → Joins (later f seen last) k x) → (k : ℕ) → Joins (last ∷ later f seen last) k x
      at more zero e =
          let near = (minus_elim n (neighbourhood n t last) seen x (from_first f _ (next_level n t seen last) x e)).1 in
          let (y, _, f) = any_elim n (λ i. has last i && neighbours t i x) (set_of_elim n (leads n (neighbours t) last) x near).1 in
          (y, and_l (has last y) (neighbours t y x) f, and_r (has last y) (neighbours t y x) f)
      at more (suc k) e = more k e

  -- and is not seen
  from_new : (f seen last k x : ℕ) → x < n → has (row (levels_from f n t seen last) (suc k)) x ≡ true → has seen x ≡ false
  unfolding levels_from
  from_new zero seen last k x l = none_has (suc k) x
  from_new (suc f) seen last k x l =
      cond_elim (λ (ls : List ℕ). has (row ls (suc k)) x ≡ true → has seen x ≡ false) (eqb last 0) [] (last ∷ later f seen last) (λ _. none_has (suc k) x)
      (λ _. at (λ k. from_new f (join n seen next) next k x l) k)
    where
      next : ℕ
      next = next_level n t seen last

      at : ((k : ℕ) → has (row (later f seen last) (suc k)) x ≡ true → has (join n seen next) x ≡ false)
          → (k : ℕ) → has (row (later f seen last) k) x ≡ true → has seen x ≡ false
      at more zero e = (minus_elim n (neighbourhood n t last) seen x (from_first f _ next x e)).2
      at more (suc k) e = or_false_l (has seen x) (has next x) (sym (has_join n seen next x l) ∙ more k e)

  -- so it is in no other
  from_once : (f seen last j k x : ℕ) → x < n → (has last x ≡ true → has seen x ≡ true)
      → has (row (levels_from f n t seen last) j) x ≡ true → has (row (levels_from f n t seen last) k) x ≡ true → j ≡ k
  unfolding levels_from
  from_once f seen last zero zero x l h = λ e d. refl
  from_once f seen last zero (suc k) x l h = λ e d. absurd (not_both (h (from_first f seen last x e)) (from_new f seen last k x l d))
  from_once f seen last (suc j) zero x l h = λ e d. absurd (not_both (h (from_first f seen last x d)) (from_new f seen last j x l e))
  from_once zero seen last (suc j) (suc k) x l h = λ e d. none_has (suc j) x e
  from_once (suc f) seen last (suc j) (suc k) x l h =
      let next : ℕ = next_level n t seen last in
      cond_elim (λ (ls : List ℕ). has (row ls (suc j)) x ≡ true → has (row ls (suc k)) x ≡ true → suc j ≡ suc k) (eqb last 0) [] (last ∷ later f seen last)
      (λ _ e d. none_has (suc j) x e)
      (λ _ e d. ap suc (from_once f (join n seen next) next j k x l (λ q. has_join n seen next x l ∙ or_r (has seen x) q) e d))

  -- the levels of a seed start with it
  first_is : (f seed : ℕ) → seed < n → 0 < f → row (levels_from f n t (2 ^ seed) (2 ^ seed)) 0 ≡ 2 ^ seed
  first_is zero seed low h = absurd (not-suc-le-zero h)
  first_is (suc f) seed low h = ap (λ (ls : List ℕ). row ls 0) (from_more f n t (2 ^ seed) (2 ^ seed) (pow-lt low) (pow_pos seed))

-- a station in some level is in one at a place
reached_at : (ls : List ℕ) (x : ℕ) → reached ls x ≡ true → (k : ℕ) × (k < length ls) × (has (row ls k) x ≡ true)
unfolding reached
reached_at [] x e = clash (sym e)
reached_at (l ∷ ls) x e =
    ⊎_elim (λ h. (0, omega arith, h)) (λ h. let (k, lk, m) = reached_at ls x h in (suc k, omega arith, m)) (or_cases (has l x) (reached ls x) e)

-- ---- in an array

-- the first `count` words are the levels of the seed, and have all n stations
pub record Levelled (n : ℕ) (t : List ℕ) (seed : ℕ) (level : List ℕ) (count : ℕ) : Type 0 where
  pub first : row level 0 ≡ 2 ^ seed
  pub joined : (k x : ℕ) → suc k < count → has (row level (suc k)) x ≡ true → (y : ℕ) × (has (row level k) y ≡ true) × (neighbours t y x ≡ true)
  pub once : (j k x : ℕ) → j < count → k < count → has (row level j) x ≡ true → has (row level k) x ≡ true → j ≡ k
  pub below : (k x : ℕ) → k < count → has (row level k) x ≡ true → x < n
  pub covers : (x : ℕ) → x < n → (k : ℕ) × (k < count) × (has (row level k) x ≡ true)

pub levelled : (n : ℕ) (t : List ℕ) (seed : ℕ) (level : List ℕ) (count : ℕ) → seed < n → count ≤ length level → take count level ≡ levels n t seed
    → unreached n (levels n t seed) ≡ 0 → Levelled n t seed level count
unfolding levels
levelled n t seed level count low long e z =
    record {
      first = top;
      joined = λ k x l h. let (y, m, r) = from_joined n t n (2 ^ seed) (2 ^ seed) k x (there (suc k) x l h) in (y, back k y (omega arith) m, r);
      once = λ j k x lj lk ej ek. from_once n t n (2 ^ seed) (2 ^ seed) j k x (inside j x lj ej) (λ q. q) (there j x lj ej) (there k x lk ek);
      below = inside;
      covers = found;
    }
  where
    ls : List ℕ
    ls = levels n t seed

    size : length ls ≡ count
    size = ap length (sym e) ∙ length-take-le count level long

    at : (k : ℕ) → k < count → row level k ≡ row ls k
    at k l = sym (get_or-take count level k 0 l) ∙ ap (λ (xs : List ℕ). row xs k) e

    there : (k x : ℕ) → k < count → has (row level k) x ≡ true → has (row ls k) x ≡ true
    there k x l h = ap (λ (w : ℕ). has w x) (sym (at k l)) ∙ h

    back : (k x : ℕ) → k < count → has (row ls k) x ≡ true → has (row level k) x ≡ true
    back k x l h = ap (λ (w : ℕ). has w x) (at k l) ∙ h

    inside : (k x : ℕ) → k < count → has (row level k) x ≡ true → x < n
    inside k x l h = member_below n (row level k) x (level_below n t seed count level e low k l) h

    found : (x : ℕ) → x < n → (k : ℕ) × (k < count) × (has (row level k) x ≡ true)
    found x l =
        let (k, lk, m) = reached_at ls x (all_reached n t seed low z x l) in
        let lc : k < count = omega (arith, size) in
        (k, lc, back k x lc m)

    top : row level 0 ≡ 2 ^ seed
    top =
        let (k, lk, m) = found seed low in
        at 0 (omega arith) ∙ first_is n t n seed low (omega arith)

-- ---- words of several levels

module _ {level : List ℕ} where
  pub spans_first : (seed : ℕ) → row level 0 ≡ 2 ^ seed → Spans level 0 1 (2 ^ seed)
  spans_first seed e =
      record {
        holds = λ x h. (0, omega arith, omega arith, ap (λ (w : ℕ). has w x) e ∙ h);
        found = λ k x g l h.
            let z : k ≡ 0 = omega arith in
            ap (λ (w : ℕ). has w x) (sym e ∙ ap (row level) (sym z)) ∙ h;
      }

  pub spans_none : (k : ℕ) → Spans level k k 0
  spans_none k = record { holds = λ x h. clash (sym h ∙ has_zero x); found = λ j x g l h. absurd (let z : ⊥ = omega arith in z) }

  -- one level more, at either end
  pub spans_up : {i j w : ℕ} → i ≤ j → Spans level i j w → Spans level i (j + 1) (bit_or w (row level j))
  spans_up {i} {j} {w} le S =
      record {
        holds = λ x h. ⊎_elim
            (λ m. let (k, a, b, c) = S.holds x m in (k, a, omega arith, c))
            (λ m. (j, le, omega arith, m)) (or_cases (has w x) (has (row level j) x) (sym (has_or w (row level j) x) ∙ h));
        found = λ k x a b h. has_or w (row level j) x ∙ ⊎_elim
            (λ l. or_l (has (row level j) x) (S.found k x a l h))
            (λ g. let e : k ≡ j = omega arith in or_r (has w x) (ap (λ (m : ℕ). has (row level m) x) (sym e) ∙ h))
            (below? k j);
      }

  pub spans_down : {i j w : ℕ} → i < j → Spans level (i + 1) j w → Spans level i j (bit_or w (row level i))
  spans_down {i} {j} {w} lt S =
      record {
        holds = λ x h. ⊎_elim
            (λ m. let (k, a, b, c) = S.holds x m in (k, omega arith, b, c))
            (λ m. (i, omega arith, lt, m)) (or_cases (has w x) (has (row level i) x) (sym (has_or w (row level i) x) ∙ h));
        found = λ k x a b h. has_or w (row level i) x ∙ ⊎_elim
            (λ l. or_l (has (row level i) x) (S.found k x (omega arith) b h))
            (λ g. let e : k ≡ i = omega arith in or_r (has w x) (ap (λ (m : ℕ). has (row level m) x) (sym e) ∙ h))
            (below? i k);
      }

-- the levels below a level hang together with the seed
pub levels_hang : {n : ℕ} {t nbr : List ℕ} {seed count : ℕ} {level : List ℕ} → Linked n t nbr → Levelled n t seed level count
    → (k w : ℕ) → k ≤ count → Spans level 0 k w → (x : ℕ) → has w x ≡ true → Along nbr w seed x
levels_hang {n} {t} {nbr} {seed} {count} {level} d L k w le S x h = let (j, _, lj, m) = S.holds x h in go j x lj m
  where
    go : (j x : ℕ) → j < k → has (row level j) x ≡ true → Along nbr w seed x
    go zero x l m =
        let e : x ≡ seed = has_one seed x (ap (λ (v : ℕ). has v x) (sym L.first) ∙ m) in
        subst (λ (y : ℕ). Along nbr w seed y) (sym e) (stay (S.found 0 seed (omega arith) l (ap (λ (v : ℕ). has v seed) L.first ∙ has_self seed)))
    go (suc j) x l m =
        let (y, my, r) = L.joined j x (omega arith) m in
        step (go j y (omega arith) my)
        (linked_intro d y x (L.below j y (omega arith) my) (L.below (suc j) x (omega arith) m) r) (S.found (suc j) x (omega arith) l m)
