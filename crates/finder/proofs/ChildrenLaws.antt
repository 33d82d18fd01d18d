-- The children of a node: which one gives the answer, and a walk over them by the lowest. Assumes nothing.
use mathlib.Core.Path.{◌≡◌, refl, sym, ap, ap₂, ◌∙◌}
use mathlib.Core.Logic.{◌⊎◌, inl, inr, ⊎_elim}
use mathlib.Core.Bool.{Bool, true, false, not, ◌&&◌, false≢true}
use Prim.Native.Nat.{ℕ, zero, suc, ◌+◌, ◌-◌, ◌^◌, ◌≤◌, ◌<◌}
use native.Mathlib.Omega.{arith}
use native.Mathlib.Nat.{eq-or-lt_of_le, le_refl}
use lib.Dec.{eqb}
use lib.Bits.{bit_and}
use lib.Count.{count_trailing_zeros}
use borrow.Author.Tests.{eq-eqb, ne_eqb}
use Rattle.bitset.specs.Sets.{has}
use Rattle.bitset.specs.inner.Members.{Least}
use Rattle.bitset.proofs.BoolLaws.{cases, not_both}
use Rattle.bitset.proofs.HasLaws.{has_zero}
use Rattle.bitset.proofs.LeastLaws.{trailing_least, has_clear}
use Rattle.finder.specs.Search.{Search, nothing, and_then, children}

pub children_skip : (f : ℕ → Search) (p : ℕ → Bool) (m k : ℕ) → p k ≡ false → children f p (suc m) k ≡ children f p m (suc k)
unfolding children
children_skip f p m k e = rw e

pub children_take : (f : ℕ → Search) (p : ℕ → Bool) (m k : ℕ) → p k ≡ true → children f p (suc m) k ≡ and_then (f k) (children f p m (suc k))
unfolding children
children_take f p m k e = rw e

pub then_found : (r s : Search) → r.found ≡ true → and_then r s ≡ r
then_found r s e = rw e

pub then_next : (r s : Search) → r.found ≡ false → and_then r s ≡ record { found = s.found; list = s.list; nodes = r.nodes + s.nodes }
then_next r s e = rw e

-- no child has a round: none that passes has
pub children_none : (f : ℕ → Search) (p : ℕ → Bool) (m k : ℕ) → (children f p m k).found ≡ false
    → (j : ℕ) → k ≤ j → j < k + m → p j ≡ true → (f j).found ≡ false
children_none f p zero k e j l h q = absurd (omega arith)
children_none f p (suc m) k e j l h q = go (cases (p k)) (λ d. children_none f p m (suc k) d)
  where
    go : (p k ≡ true) ⊎ (p k ≡ false) → ((children f p m (suc k)).found ≡ false → (j : ℕ) → suc k ≤ j → j < suc k + m → p j ≡ true → (f j).found ≡ false) → (f j).found ≡ false
    go (inr z) ih =
        ⊎_elim
        (λ (s : k ≡ j). absurd (not_both (ap p s ∙ q) z))
        (λ (s : k < j). ih (ap (λ (x : Search). x.found) (sym (children_skip f p m k z)) ∙ e) j s (omega arith) q)
        (eq-or-lt_of_le l)
    go (inl z) ih =
        let g = ap (λ (x : Search). x.found) (sym (children_take f p m k z)) ∙ e in
        ⊎_elim
        (λ (y : (f k).found ≡ true). absurd (not_both y (ap (λ (x : Search). x.found) (sym (then_found (f k) (children f p m (suc k)) y)) ∙ g)))
        (λ (y : (f k).found ≡ false).
        ⊎_elim
        (λ (s : k ≡ j). ap (λ (i : ℕ). (f i).found) (sym s) ∙ y)
        (λ (s : k < j). ih (ap (λ (x : Search). x.found) (sym (then_next (f k) (children f p m (suc k)) y)) ∙ g) j s (omega arith) q)
        (eq-or-lt_of_le l))
        (cases (f k).found)

-- some child has a round: the first that has gives the list
pub record Chosen (f : ℕ → Search) (p : ℕ → Bool) (k : ℕ) (s : Search) : Type 0 where
  pub at : ℕ
  pub from : k ≤ at
  pub passes : p at ≡ true
  pub has : (f at).found ≡ true
  pub same : s.list ≡ (f at).list
  pub counts : (f at).nodes ≤ s.nodes
  pub earlier : (j : ℕ) → k ≤ j → j < at → p j ≡ true → (f j).found ≡ false

chosen_later : (f : ℕ → Search) (p : ℕ → Bool) (k : ℕ) (s t : Search) → Chosen f p (suc k) s → t.list ≡ s.list → s.nodes ≤ t.nodes → (p k ≡ true → (f k).found ≡ false) → Chosen f p k t
chosen_later f p k s t c e m h =
    record {
      at = c.at;
      from = omega (arith, c.from);
      passes = c.passes;
      has = c.has;
      same = e ∙ c.same;
      counts = omega (arith, c.counts, m);
      earlier = λ j l g q. ⊎_elim (λ (z : k ≡ j). ap (λ (i : ℕ). (f i).found) (sym z) ∙ h (ap p z ∙ q)) (λ (z : k < j). c.earlier j z g q) (eq-or-lt_of_le l);
    }

pub children_found : (f : ℕ → Search) (p : ℕ → Bool) (m k : ℕ) → (children f p m k).found ≡ true → Chosen f p k (children f p m k)
children_found f p zero k e = absurd (unfold children in (false≢true e))
children_found f p (suc m) k e = go (cases (p k)) (λ d. children_found f p m (suc k) d)
  where
    rest : Search
    rest = children f p m (suc k)

    go : (p k ≡ true) ⊎ (p k ≡ false) → (rest.found ≡ true → Chosen f p (suc k) rest) → Chosen f p k (children f p (suc m) k)
    go (inr z) ih =
        let s = children_skip f p m k z in
        chosen_later f p k rest (children f p (suc m) k) (ih (ap (λ (x : Search). x.found) (sym s) ∙ e)) (ap (λ (x : Search). x.list) s) (let e = ap (λ (x : Search). x.nodes) s in omega (arith, e)) (λ y. absurd (not_both y z))
    go (inl z) ih =
        let s = children_take f p m k z in
        ⊎_elim
        (λ (y : (f k).found ≡ true).
        record {
          at = k;
          from = le_refl k;
          passes = z;
          has = y;
          same = ap (λ (x : Search). x.list) (s ∙ then_found (f k) rest y);
          counts = let e = ap (λ (x : Search). x.nodes) (s ∙ then_found (f k) rest y) in omega (arith, e);
          earlier = λ j l g q. absurd (omega arith);
        })
        (λ (y : (f k).found ≡ false).
        let n = s ∙ then_next (f k) rest y in
        chosen_later f p k rest (children f p (suc m) k) (ih (ap (λ (x : Search). x.found) (sym n) ∙ e)) (ap (λ (x : Search). x.list) n) (let e = ap (λ (x : Search). x.nodes) n in omega (arith, e)) (λ _. y))
        (cases (f k).found)

-- ---- by the lowest number that passes

pub children_ext : (f g : ℕ → Search) (p q : ℕ → Bool) (m k : ℕ) → ((j : ℕ) → k ≤ j → p j ≡ q j) → ((j : ℕ) → f j ≡ g j) → children f p m k ≡ children g q m k
unfolding children
children_ext f g p q zero k h e = refl
children_ext f g p q (suc m) k h e = rw (children_ext f g p q m (suc k) (λ j l. h j (omega arith)) e, h k (le_refl k), e k)

pub children_first : (f : ℕ → Search) (p : ℕ → Bool) (m k t : ℕ) → k ≤ t → t < k + m → p t ≡ true → ((j : ℕ) → j < t → p j ≡ false)
    → children f p m k ≡ and_then (f t) (children f (λ j. p j && not (eqb j t)) m k)
children_first f p zero k t l h e b = absurd (omega arith)
children_first f p (suc m) k t l h e b = go (eq-or-lt_of_le l) (λ d. children_first f p m (suc k) t d (omega arith) e b)
  where
    q : ℕ → Bool
    q j = p j && not (eqb j t)

    go : (k ≡ t) ⊎ (k < t) → (suc k ≤ t → children f p m (suc k) ≡ and_then (f t) (children f q m (suc k))) → children f p (suc m) k ≡ and_then (f t) (children f q (suc m) k)
    go (inl z) ih =
        let s : children f q (suc m) k ≡ children f q m (suc k) = children_skip f q m k (ap₂ (λ (x y : Bool). x && not y) (ap p z ∙ e) (eq-eqb k t z)) in
        let r : children f p m (suc k) ≡ children f q m (suc k) = children_ext f f p q m (suc k) (λ j d. sym (ap (λ (y : Bool). p j && not y) (ne_eqb j t (λ y. omega arith)) ∙ and-true (p j))) (λ j. refl) in
        children_take f p m k (ap p z ∙ e) ∙ ap₂ (λ (x : ℕ) (y : Search). and_then (f x) y) z (r ∙ sym s)
      where
        and-true : (x : Bool) → x && true ≡ x
        and-true true = refl
        and-true false = refl
    go (inr z) ih =
        children_skip f p m k (b k z) ∙ ih z ∙ ap (and_then (f t)) (sym (children_skip f q m k (ap (λ (x : Bool). x && not (eqb k t)) (b k z))))

pub children_empty : (f : ℕ → Search) (m k : ℕ) → children f (has 0) m k ≡ nothing
unfolding children
children_empty f zero k = refl
children_empty f (suc m) k = children_skip f (has 0) m k (has_zero k) ∙ children_empty f m (suc k)

-- a walk over the members of a word, the lowest first
pub children_lowest : (f : ℕ → Search) (r : ℕ) → 0 < r → r < 2 ^ 64
    → children f (has r) 64 0 ≡ and_then (f (count_trailing_zeros 64 r)) (children f (has (bit_and r (r - 1))) 64 0)
children_lowest f r h b =
    let t : ℕ = count_trailing_zeros 64 r in
    let l : Least 64 r t = trailing_least 64 r h b in
    children_first f (has r) 64 0 t (omega arith) (omega (arith, l.below)) l.member l.least
    ∙ ap (and_then (f t)) (children_ext f f (λ j. has r j && not (eqb j t)) (has (bit_and r (r - 1))) 64 0 (λ j d. sym (has_clear 64 r j h b)) (λ j. refl))
