-- Each station that an alternating path joins to a free one is spare: move the components on along the path. Assumes nothing.
use mathlib.Core.Path.{◌≡◌, refl, sym, ap, ◌∙◌}
use mathlib.Core.Logic.{⊎_elim}
use mathlib.Core.List.{List}
use Prim.Native.Nat.{ℕ, zero, suc, ◌<◌}
use native.Mathlib.Nat.{not-suc-le-zero, le_refl}
use native.Mathlib.Omega.{arith}
use Rattle.bitset.specs.Sets.{has}
use Rattle.bitset.proofs.BoolLaws.{cases}
use Rattle.bitset.specs.Upto.{row}
use Rattle.matching.specs.Matching.{In, Out, Assigns, LeftOut}
use Rattle.matching.specs.inner.Paths.{Matched, Step, Forest}
use Rattle.matching.proofs.PutLaws.{Put, put, put_is, put_other}
use Rattle.matching.proofs.PathLaws.{fill}

module _ (fits owner : List ℕ) (p stations free reach : ℕ) (via rank : ℕ → ℕ) (m : Matched fits owner p stations free)
    (f : Forest fits stations free reach (row owner) via rank) where
  -- an assignment without u, in which the components at stations of higher ranks stay
  record Left (u : ℕ) : Type 0 where
    to : ℕ → ℕ
    assigns : Assigns fits p to
    avoids : (c : ℕ) → c < p → to c ≡ u → ⊥
    same : (c : ℕ) → c < p → rank u < rank (m.to c) → to c ≡ m.to c

  leave_step : (u : ℕ) → In stations u → Out free u → Step fits reach (row owner) via rank u → Left (via u) → Left u
  leave_step u i o s r =
      record {
        to = g;
        assigns = fill fits p x (via u) r.to g
            (record { fit = λ c l _. r.assigns.fit c l; apart = λ c d lc ld _ _. r.assigns.apart c d lc ld }) s.goes (λ d l _. r.avoids d l) is;
        avoids = avoids;
        same = same;
      }
    where
      x : ℕ
      x = row owner u

      own : (x < p) × (m.to x ≡ u)
      own = m.owned u i o

      g : ℕ → ℕ
      g = put r.to x (via u)

      is : Put r.to x (via u) g
      is = put_is r.to x (via u)

      was : r.to x ≡ u
      was = let up : rank (via u) < rank (m.to x) = omega (arith, s.falls, ap rank own.1) in r.same x own.0 up ∙ own.1

      avoids : (c : ℕ) → c < p → g c ≡ u → ⊥
      avoids c l e =
          ⊎_elim
          (λ (q : (c ≡ x) × (g c ≡ via u)). omega (arith, s.falls, ap rank (sym q.1 ∙ e)))
          (λ (q : (c ≡ x → ⊥) × (g c ≡ r.to c)). q.0 (r.assigns.apart c x l own.0 (sym q.1 ∙ e ∙ sym was))) (is c)

      same : (c : ℕ) → c < p → rank u < rank (m.to c) → g c ≡ m.to c
      same c l h =
          let ne : c ≡ x → ⊥ = λ q. omega (arith, ap (λ (k : ℕ). rank (m.to k)) q, ap rank own.1) in
          put_other is c ne ∙ r.same c l (omega (arith, s.falls))

  leave : (k u : ℕ) → rank u < k → In reach u → Left u
  leave zero u h i = absurd (not-suc-le-zero h)
  leave (suc k) u h i =
      ⊎_elim here
      (λ (o : Out free u). ⊎_elim here
      (λ (s : Step fits reach (row owner) via rank u). leave_step u (f.inside u i) o s (leave k (via u) (omega (arith, s.falls)) s.stays)) (f.step u i)) (cases (has free u))
    where
      here : In free u → Left u
      here j = record { to = m.to; assigns = m.good; avoids = λ c. m.vacant u c j; same = λ c l q. refl }

  pub spare : (u : ℕ) → In reach u → LeftOut fits p u
  spare u i = let r = leave (suc (rank u)) u (le_refl (suc (rank u))) i in (record { to = r.to; good = r.assigns }, r.avoids)
