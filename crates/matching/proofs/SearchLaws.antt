-- The search of `reachable`, on functions. A station's rank is the word of those found up to it, as a number: it grows with each. Assumes nothing.
use mathlib.Core.Path.{◌≡◌, sym, ap, ap₂, ◌∙◌}
use mathlib.Core.Logic.{◌⊎◌, inl, inr, ⊎_elim}
use mathlib.Core.List.{List}
use Prim.Native.Nat.{ℕ, suc, ◌+◌, ◌-◌, ◌*◌, ◌≤◌, ◌<◌}
use native.Mathlib.Nat.{suc-mul, mul-le-mul_right}
use native.Mathlib.Decide.{ℕ_discrete}
use native.Mathlib.Omega.{arith}
use Rattle.bitset.specs.Sets.{has}
use Rattle.bitset.proofs.BoolLaws.{not_both, is_false}
use Rattle.bitset.specs.Upto.{row}
use Rattle.matching.specs.Matching.{In, Out}
use Rattle.matching.specs.inner.Paths.{Step, Forest, Blocked}
use Rattle.bitset.proofs.WordLaws.{With, Without}
use Rattle.matching.proofs.PutLaws.{Put, put, put_is, put_same, put_other}

-- `rest` has the stations that are neither in `reach` nor known to be blocked
pub record Search (fits : List ℕ) (stations free : ℕ) (who via : ℕ → ℕ) (reach rest : ℕ) : Type 0 where
  pub rank : ℕ → ℕ
  pub forest : Forest fits stations free reach who via rank
  pub high : (u : ℕ) → In reach u → rank u ≤ reach
  pub fresh : (u : ℕ) → In rest u → In stations u × Out reach u
  pub tried : (u : ℕ) → In stations u → Out reach u → Out rest u → Blocked fits reach who u

-- `rest` has the stations that are not in `reach`
abbrev pub All : ℕ → ℕ → ℕ → Type 0
All stations reach rest = (u : ℕ) → (In rest u → In stations u × Out reach u) × (In stations u → Out reach u → In rest u)

module _ (fits : List ℕ) (stations free : ℕ) (who via : ℕ → ℕ) where
  pub search_start : (rest : ℕ) → ((u : ℕ) → In free u → In stations u) → All stations free rest → Search fits stations free who via free rest
  search_start rest inside all =
      record {
        rank = λ u. 0;
        forest = record { inside = inside; start = λ u f. f; step = λ u f. inl f };
        high = λ u i. omega arith;
        fresh = λ u. (all u).0;
        tried = λ u i o r. absurd (not_both ((all u).1 i o) r);
      }

  module _ (reach rest : ℕ) (q : Search fits stations free who via reach rest) (s : ℕ) (i : In rest s) where
    -- s is blocked
    pub search_blocked : (less : ℕ) → Without rest s less → Blocked fits reach who s → Search fits stations free who via reach less
    search_blocked less d b =
        record {
          rank = q.rank;
          forest = q.forest;
          high = q.high;
          fresh = λ u j. q.fresh u (d.less u j).0;
          tried = λ u j o r. go u j o r (ℕ_discrete u s);
        }
      where
        go : (u : ℕ) → In stations u → Out reach u → Out less u → Dec (u ≡ s) → Blocked fits reach who u
        go u j o r (yes e) = λ t f. b t (ap (λ (x : ℕ). has (row fits (who x)) t) (sym e) ∙ f)
        go u j o r (no ne) = q.tried u j o (is_false (has rest u) (λ k. not_both (d.kept u k ne) r))

    -- the component at s can move to v: s joins the stations found
    pub search_found : (v more rest' : ℕ) (via' : ℕ → ℕ) → In (row fits (who s)) v → In reach v → With reach s more → All stations more rest' → Put via s v via'
        → Search fits stations free who via' more rest'
    search_found v more rest' via' goes stays w all pv =
        record {
          rank = rank';
          forest = record { inside = inside; start = λ u f. w.kept u (q.forest.start u f); step = step };
          high = high;
          fresh = λ u. (all u).0;
          tried = λ u j o r. absurd (not_both ((all u).1 j o) r);
        }
      where
        out : Out reach s
        out = (q.fresh s i).1

        -- what was found is not s
        not_s : (u : ℕ) → In reach u → u ≡ s → ⊥
        not_s u j e = not_both j (ap (has reach) e ∙ out)

        rank' : ℕ → ℕ
        rank' = put q.rank s more

        pr : Put q.rank s more rank'
        pr = put_is q.rank s more

        inside : (u : ℕ) → In more u → In stations u
        inside u j = ⊎_elim (λ (e : u ≡ s). ap (has stations) e ∙ (q.fresh s i).0) (λ (k : In reach u). q.forest.inside u k) (w.only u j)

        step_s : (u : ℕ) → u ≡ s → Step fits more who via' rank' u
        step_s u e =
            let b : via' u ≡ v = put_same pv u e in
            record {
              goes = ap₂ (λ (x y : ℕ). has (row fits (who x)) y) e b ∙ goes;
              stays = ap (has more) b ∙ w.kept v stays;
              falls = omega (arith, ap rank' b, put_other pr v (not_s v stays), q.high v stays, w.more out, put_same pr u e);
            }

        step_old : (u : ℕ) → In reach u → Step fits reach who via q.rank u → Step fits more who via' rank' u
        step_old u j r =
            let b : via' u ≡ via u = put_other pv u (not_s u j) in
            record {
              goes = ap (has (row fits (who u))) b ∙ r.goes;
              stays = ap (has more) b ∙ w.kept (via u) r.stays;
              falls = omega (arith, ap rank' b, put_other pr (via u) (not_s (via u) r.stays), r.falls, put_other pr u (not_s u j));
            }

        step : (u : ℕ) → In more u → In free u ⊎ Step fits more who via' rank' u
        step u j =
            ⊎_elim (λ (e : u ≡ s). inr (step_s u e))
            (λ (k : In reach u). ⊎_elim (λ (f : In free u). inl f) (λ r. inr (step_old u k r)) (q.forest.step u k)) (w.only u j)

        high : (u : ℕ) → In more u → rank' u ≤ more
        high u j =
            ⊎_elim (λ (e : u ≡ s). omega (arith, put_same pr u e))
            (λ (k : In reach u). omega (arith, put_other pr u (not_s u k), q.high u k, w.more out)) (w.only u j)

-- the measure of the search: `reach` grows, or `rest` gets less
pub grown_less : (m a b x y : ℕ) → a < b → b ≤ m → x < m → (m - b) * m + x < (m - a) * m + y
grown_less m a b x y h l k =
    let s : suc (m - b) ≤ m - a = omega arith in
    omega (arith, mul-le-mul_right m s, suc-mul (m - b) m)
