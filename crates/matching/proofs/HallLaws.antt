-- Hall's argument, twice: why there is no assignment where the next component can have no station of `reach`, and why every assignment takes each
-- station outside `reach`. The components at stations outside can only have stations outside, each of which one of them has. Assumes nothing.
use mathlib.Core.Path.{◌≡◌, refl, sym, ap, ◌∙◌}
use mathlib.Core.Logic.{◌⊎◌, ◌≢◌, inl, inr, ⊎_elim}
use mathlib.Core.Bool.{true, true≢false}
use mathlib.Core.List.{List}
use Prim.Native.Nat.{ℕ, ◌+◌, ◌≤◌, ◌<◌}
use native.Mathlib.Nat.{le_refl}
use native.Mathlib.Decide.{ℕ_discrete}
use native.Mathlib.Omega.{arith}
use Rattle.bitset.specs.Sets.{has}
use Rattle.bitset.proofs.BoolLaws.{cases, not_both, is_false}
use Rattle.bitset.proofs.QuantLaws.{below?}
use Rattle.bitset.proofs.FirstLaws.{some_or_all}
use Rattle.bitset.specs.Upto.{row}
use Rattle.matching.specs.Matching.{In, Out, Assigns, Inside, Assignment, Exact}
use Rattle.matching.specs.inner.Paths.{Matched, Reached}
use Rattle.matching.proofs.OrbitLaws.{no_miss}
use Rattle.matching.proofs.SpareLaws.{spare}

-- a component below p at the station s, or none
find : (p : ℕ) (to : ℕ → ℕ) (s : ℕ) → ((c : ℕ) × (c < p) × (to c ≡ s)) ⊎ ((c : ℕ) → c < p → to c ≢ s)
find p to s = some_or_all (λ c. decided (ℕ_discrete (to c) s)) p
  where
    decided : {c : ℕ} → Dec (to c ≡ s) → (to c ≡ s) ⊎ (to c ≢ s)
    decided (yes e) = inl e
    decided (no d) = inr d

-- fewer components
pub inside_less : (fits : List ℕ) (n m stations : ℕ) → n ≤ m → Inside fits m stations → Inside fits n stations
inside_less fits n m stations h i c s l = i c s (omega arith)

pub assigns_less : (fits : List ℕ) (n m : ℕ) (to : ℕ → ℕ) → n ≤ m → Assigns fits m to → Assigns fits n to
assigns_less fits n m to h a = record { fit = λ c l. a.fit c (omega arith); apart = λ c d lc ld. a.apart c d (omega arith) (omega arith) }

module _ (fits owner via : List ℕ) (n stations free reach : ℕ) (inside : Inside fits n stations) (m : Matched fits owner n stations free)
    (r : Reached fits owner stations free reach via) where
  -- a station outside `reach` has a component
  own : (s : ℕ) → In stations s → Out reach s → (row owner s < n) × (m.to (row owner s) ≡ s)
  own s i o = m.owned s i (is_false (has free s) (λ f. not_both (r.forest.start s f) o))

  -- a component at a station outside can have no station of `reach`
  shut : (c t : ℕ) → c < n → Out reach (m.to c) → In (row fits c) t → In reach t → ⊥
  shut c t l o f i =
      let j = inside c (m.to c) l (m.good.fit c l) in
      let q = own (m.to c) j o in
      let e : row owner (m.to c) ≡ c = m.good.apart (row owner (m.to c)) c q.0 l q.1 in
      r.closed (m.to c) j o t (ap (λ (x : ℕ). has (row fits x) t) e ∙ f) i

  -- any assignment of the components below p, at least n, of which those from n on can have no station of `reach`
  module _ (p : ℕ) (le : n ≤ p) (to : ℕ → ℕ) (good : Assigns fits p to) (within : Inside fits p stations)
      (late : (c t : ℕ) → n ≤ c → c < p → In (row fits c) t → In reach t → ⊥) where
    Outer : ℕ → Type 0
    Outer c = (c < p) × (c < n → Out reach (m.to c))

    leaves : (c : ℕ) → c < p → (c < n → Out reach (m.to c)) → Out reach (to c)
    leaves c l o =
        is_false (has reach (to c)) (λ i. ⊎_elim
        (λ (h : c < n). shut c (to c) h (o h) (good.fit c l) i)
        (λ (h : n ≤ c). late c (to c) h l (good.fit c l) i) (below? c n))

    next : (c : ℕ) → Outer c → (d : ℕ) × Outer d
    unfolding Outer
    next c q =
        let o = leaves c q.0 q.1 in
        let x = own (to c) (within c (to c) q.0 (good.fit c q.0)) o in
        (row owner (to c), (omega (arith, x.0), λ h. ap (has reach) x.1 ∙ o))

    -- the next component is at the station that `to` gives this one
    stands : (c : ℕ) (q : Outer c) → ((next c q).0 < n) × (m.to (next c q).0 ≡ to c)
    unfolding Outer next
    stands c q = own (to c) (within c (to c) q.0 (good.fit c q.0)) (leaves c q.0 q.1)

    comes_back : (x : ℕ) → x < p → (x < n → Out reach (m.to x)) → ((c : ℕ) → c < p → (x < n → to c ≡ m.to x → ⊥)) → ⊥
    unfolding Outer
    comes_back x l o miss =
        no_miss Outer p next (λ c q. q.0)
        (λ c d y z e. good.apart c d y.0 z.0 (sym (stands c y).1 ∙ ap m.to e ∙ (stands d z).1))
        x (l, o) (λ c q e. miss c q.0 (omega (arith, e, (stands c q).0)) (sym (stands c q).1 ∙ ap m.to e))

  -- the component n can have no station of `reach`: there is no assignment with it
  pub stuck : Inside fits (n + 1) stations → ((t : ℕ) → In (row fits n) t → In reach t → ⊥) → Assignment fits (n + 1) → ⊥
  stuck more none a =
      comes_back (n + 1) (omega arith) a.to a.good more
      (λ c t h l f. let e : c ≡ n = omega arith in none t (ap (λ (x : ℕ). has (row fits x) t) (sym e) ∙ f))
      n (omega arith) (λ h. absurd (omega arith)) (λ c l h. absurd (omega arith))

  -- every assignment takes each station outside `reach`
  taken : (a : Assignment fits n) (s : ℕ) → In stations s → Out reach s → (c : ℕ) × (c < n) × (a.to c ≡ s)
  taken a s i o = ⊎_elim (λ x. x) (λ none. absurd (gone none)) (find n a.to s)
    where
      gone : ((c : ℕ) → c < n → a.to c ≢ s) → ⊥
      gone none =
          let x = own s i o in
          comes_back n (le_refl n) a.to a.good inside (λ c t h l. absurd (omega arith))
          (row owner s) x.0 (λ h. ap (has reach) x.1 ∙ o) (λ c l h e. none c l (e ∙ x.1))

  -- all components are matched
  pub exact : Exact fits n stations true reach
  exact =
      record {
        some = record { holds = λ _. record { to = m.to; good = m.good }; found = λ _. refl };
        left = λ _ s.
            record {
              holds = λ i. (r.forest.inside s i, spare fits owner n stations free reach (row via) r.rank m r.forest s i);
              found = λ (i, (a, out)). ⊎_elim (λ q. q) (λ o. let t = taken a s i o in absurd (out t.0 t.1 t.2)) (cases (has reach s));
            };
        empty = λ e. absurd (true≢false e);
      }
