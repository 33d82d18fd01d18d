-- The walk of `augment` along an augmenting path, on functions. On the way every component below n + 1 has a station, but c, which goes to s.
-- Assumes nothing.
use mathlib.Core.Path.{◌≡◌, sym, ap, ap₂, ◌∙◌}
use mathlib.Core.Logic.{◌⊎◌, inl, inr, ⊎_elim}
use mathlib.Core.List.{List}
use Prim.Native.Nat.{ℕ, ◌+◌, ◌≤◌, ◌<◌}
use native.Mathlib.Nat.{le_refl}
use native.Mathlib.Omega.{arith}
use lib.ListN.{length}
use Rattle.bitset.specs.Sets.{has}
use Rattle.bitset.proofs.BoolLaws.{not_both, is_false}
use Rattle.bitset.specs.Upto.{row}
use Rattle.matching.specs.Matching.{In, Out, Assigns}
use Rattle.matching.specs.inner.Paths.{Matched, Step, Forest}
use Rattle.bitset.proofs.WordLaws.{Without}
use Rattle.matching.proofs.PutLaws.{Put, put, put_is, put_same, put_other}

-- `to` gives every component below m a station but c
pub record But (fits : List ℕ) (m c : ℕ) (to : ℕ → ℕ) : Type 0 where
  pub fit : (d : ℕ) → d < m → (d ≡ c → ⊥) → In (row fits d) (to d)
  pub apart : (d e : ℕ) → d < m → e < m → (d ≡ c → ⊥) → (e ≡ c → ⊥) → to d ≡ to e → d ≡ e

-- c gets the station s, which no other has
pub fill : (fits : List ℕ) (m c s : ℕ) (to to' : ℕ → ℕ) → But fits m c to → In (row fits c) s
    → ((d : ℕ) → d < m → (d ≡ c → ⊥) → to d ≡ s → ⊥) → Put to c s to' → Assigns fits m to'
fill fits m c s to to' but hit clear is = record { fit = fit; apart = apart }
  where
    fit : (d : ℕ) → d < m → In (row fits d) (to' d)
    fit d l =
        ⊎_elim (λ (r : (d ≡ c) × (to' d ≡ s)). ap₂ (λ (x y : ℕ). has (row fits x) y) r.0 r.1 ∙ hit)
        (λ (r : (d ≡ c → ⊥) × (to' d ≡ to d)). ap (has (row fits d)) r.1 ∙ but.fit d l r.0) (is d)

    apart : (d e : ℕ) → d < m → e < m → to' d ≡ to' e → d ≡ e
    apart d e ld le q = go (is d) (is e)
      where
        go : ((d ≡ c) × (to' d ≡ s)) ⊎ ((d ≡ c → ⊥) × (to' d ≡ to d)) → ((e ≡ c) × (to' e ≡ s)) ⊎ ((e ≡ c → ⊥) × (to' e ≡ to e)) → d ≡ e
        go (inl x) (inl y) = x.0 ∙ sym y.0
        go (inl x) (inr y) = absurd (clear e le y.0 (sym y.1 ∙ sym q ∙ x.1))
        go (inr x) (inl y) = absurd (clear d ld x.0 (sym x.1 ∙ q ∙ y.1))
        go (inr x) (inr y) = but.apart d e ld le x.0 y.0 (sym x.1 ∙ q ∙ y.1)

-- `rest` has the stations of `reach` that the walk may still come to
pub record Path (fits : List ℕ) (n stations free reach : ℕ) (via who : ℕ → ℕ) (c s rest : ℕ) : Type 0 where
  pub to : ℕ → ℕ
  pub rank : ℕ → ℕ
  pub among : c ≤ n
  pub hit : In (row fits c) s
  pub within : In reach s
  pub but : But fits (n + 1) c to
  pub vacant : (u d : ℕ) → In free u → d < n + 1 → (d ≡ c → ⊥) → to d ≡ u → ⊥
  pub owned : (u : ℕ) → In stations u → Out free u → (who u < n + 1) × (who u ≡ c → ⊥) × (to (who u) ≡ u)
  pub step : (u : ℕ) → In reach u → rank u ≤ rank s → In free u ⊎ Step fits reach who via rank u
  pub ahead : (u : ℕ) → In reach u → rank u ≤ rank s → In rest u

module _ (fits : List ℕ) (n stations free reach : ℕ) (via : ℕ → ℕ) (inside : (u : ℕ) → In reach u → In stations u) where
  pub path_start : (owner : List ℕ) (rank : ℕ → ℕ) (s : ℕ) → Matched fits owner n stations free → Forest fits stations free reach (row owner) via rank
      → In (row fits n) s → In reach s → Path fits n stations free reach via (row owner) n s reach
  path_start owner rank s m f hit within =
      record {
        to = m.to;
        rank = rank;
        among = le_refl n;
        hit = hit;
        within = within;
        but = record { fit = λ d l h. m.good.fit d (omega arith); apart = λ d e ld le hd he. m.good.apart d e (omega arith) (omega arith) };
        vacant = λ u d i l h. m.vacant u d i (omega arith);
        owned = λ u i o. let r = m.owned u i o in (omega (arith, r.0), (λ e. omega (arith, r.0, e)), r.1);
        step = λ u i l. f.step u i;
        ahead = λ u i l. i;
      }

  module _ {who : ℕ → ℕ} {c s rest : ℕ} (p : Path fits n stations free reach via who c s rest) where
    -- s is not free
    module _ (o : Out free s) where
      pub path_step : Step fits reach who via p.rank s
      path_step = ⊎_elim (λ (f : In free s). absurd (not_both f o)) (λ r. r) (p.step s p.within (le_refl (p.rank s)))

      path_owned : (who s < n + 1) × (who s ≡ c → ⊥) × (p.to (who s) ≡ s)
      path_owned = p.owned s (inside s p.within) o

    module _ (owner : List ℕ) (is : Put who s c (row owner)) where
      to' : ℕ → ℕ
      to' = put p.to c s

      moved : Put p.to c s to'
      unfolding to'
      moved = put_is p.to c s

      -- s is free: c takes it
      pub path_end : (left : ℕ) → length owner ≡ 64 → ((u : ℕ) → In free u → In stations u) → In free s → Without free s left → Matched fits owner (n + 1) stations left
      path_end left size within i d =
          record {
            size = size;
            to = to';
            good = fill fits (n + 1) c s p.to to' p.but p.hit (λ b l q. p.vacant s b i l q) moved;
            inside = λ u f. within u (d.less u f).0;
            vacant = λ u b f l q.
                ⊎_elim (λ (r : (b ≡ c) × (to' b ≡ s)). (d.less u f).1 (sym q ∙ r.1))
                (λ (r : (b ≡ c → ⊥) × (to' b ≡ p.to b)). p.vacant u b (d.less u f).0 l r.0 (sym r.1 ∙ q)) (moved b);
            owned = owned;
          }
        where
          owned : (u : ℕ) → In stations u → Out left u → (row owner u < n + 1) × (to' (row owner u) ≡ u)
          owned u j o =
              ⊎_elim (λ (r : (u ≡ s) × (row owner u ≡ c)). (omega (arith, r.1, p.among), put_same moved (row owner u) r.1 ∙ sym r.0))
              (λ (r : (u ≡ s → ⊥) × (row owner u ≡ who u)).
              let q = p.owned u j (is_false (has free u) (λ f. not_both (d.kept u f r.0) o)) in
              (omega (arith, r.1, q.0), ap to' r.1 ∙ put_other moved (who u) q.1 ∙ q.2)) (is u)

      -- s is not free: the component there makes room for c
      module _ (o : Out free s) where
        -- a station of a lower rank is not s
        lower : (u : ℕ) → p.rank u ≤ p.rank (via s) → u ≡ s → ⊥
        lower u l e = omega (arith, (path_step o).falls, ap p.rank e)

        pub path_next : (less : ℕ) → Without rest s less → Path fits n stations free reach via (row owner) (who s) (via s) less
        path_next less d =
            record {
              to = to';
              rank = p.rank;
              among = omega (arith, (path_owned o).0);
              hit = (path_step o).goes;
              within = (path_step o).stays;
              but = record { fit = fit; apart = apart };
              vacant = vacant;
              owned = owned;
              step = step;
              ahead = λ u i l. d.kept u (p.ahead u i (omega (arith, (path_step o).falls))) (lower u l);
            }
          where
            fit : (b : ℕ) → b < n + 1 → (b ≡ who s → ⊥) → In (row fits b) (to' b)
            fit b l ne =
                ⊎_elim (λ (r : (b ≡ c) × (to' b ≡ s)). ap₂ (λ (x y : ℕ). has (row fits x) y) r.0 r.1 ∙ p.hit)
                (λ (r : (b ≡ c → ⊥) × (to' b ≡ p.to b)). ap (has (row fits b)) r.1 ∙ p.but.fit b l r.0) (moved b)

            -- none but who s was at s
            alone : (b : ℕ) → b < n + 1 → (b ≡ c → ⊥) → (b ≡ who s → ⊥) → p.to b ≡ s → ⊥
            alone b l nc nw q = nw (p.but.apart b (who s) l (path_owned o).0 nc (path_owned o).1 (q ∙ sym (path_owned o).2))

            apart : (b e : ℕ) → b < n + 1 → e < n + 1 → (b ≡ who s → ⊥) → (e ≡ who s → ⊥) → to' b ≡ to' e → b ≡ e
            apart b e lb le nb ne q = go (moved b) (moved e)
              where
                go : ((b ≡ c) × (to' b ≡ s)) ⊎ ((b ≡ c → ⊥) × (to' b ≡ p.to b)) → ((e ≡ c) × (to' e ≡ s)) ⊎ ((e ≡ c → ⊥) × (to' e ≡ p.to e)) → b ≡ e
                go (inl x) (inl y) = x.0 ∙ sym y.0
                go (inl x) (inr y) = absurd (alone e le y.0 ne (sym y.1 ∙ sym q ∙ x.1))
                go (inr x) (inl y) = absurd (alone b lb x.0 nb (sym x.1 ∙ q ∙ y.1))
                go (inr x) (inr y) = p.but.apart b e lb le x.0 y.0 (sym x.1 ∙ q ∙ y.1)

            vacant : (u b : ℕ) → In free u → b < n + 1 → (b ≡ who s → ⊥) → to' b ≡ u → ⊥
            vacant u b f l nb q =
                ⊎_elim (λ (r : (b ≡ c) × (to' b ≡ s)). not_both f (ap (has free) (sym q ∙ r.1) ∙ o))
                (λ (r : (b ≡ c → ⊥) × (to' b ≡ p.to b)). p.vacant u b f l r.0 (sym r.1 ∙ q)) (moved b)

            owned : (u : ℕ) → In stations u → Out free u → (row owner u < n + 1) × (row owner u ≡ who s → ⊥) × (to' (row owner u) ≡ u)
            owned u j f =
                ⊎_elim
                (λ (r : (u ≡ s) × (row owner u ≡ c)). (omega (arith, r.1, p.among), λ e. (path_owned o).1 (sym e ∙ r.1), put_same moved (row owner u) r.1 ∙ sym r.0))
                (λ (r : (u ≡ s → ⊥) × (row owner u ≡ who u)).
                let q = p.owned u j f in (
                  omega (arith, r.1, q.0),
                  λ e. r.0 (sym q.2 ∙ ap p.to (sym r.1 ∙ e) ∙ (path_owned o).2),
                  ap to' r.1 ∙ put_other moved (who u) q.1 ∙ q.2,
                )) (is u)

            step : (u : ℕ) → In reach u → p.rank u ≤ p.rank (via s) → In free u ⊎ Step fits reach (row owner) via p.rank u
            step u i l =
                ⊎_elim (λ (f : In free u). inl f)
                (λ (r : Step fits reach who via p.rank u). inr (record {
                  goes = ap (λ (x : ℕ). has (row fits x) (via u)) (put_other is u (lower u l)) ∙ r.goes;
                  stays = r.stays;
                  falls = r.falls;
                })) (p.step u i (omega (arith, (path_step o).falls)))

-- a free station takes the component n: a path of one step
pub direct : (fits owner owner' : List ℕ) (n stations free s left : ℕ) → Matched fits owner n stations free → In (row fits n) s → In free s
    → length owner' ≡ 64 → Put (row owner) s n (row owner') → Without free s left → Matched fits owner' (n + 1) stations left
direct fits owner owner' n stations free s left m hit i size is d =
    path_end fits n stations free free (λ u. 0) m.inside
    (path_start fits n stations free free (λ u. 0) m.inside owner (λ u. 0) s m (record { inside = m.inside; start = λ u f. f; step = λ u f. inl f }) hit i)
    owner' is left size m.inside i d
