-- The form of the pigeonhole that Hall's argument needs: no map of a bounded set into itself that is injective and misses a member. Assumes nothing.
use mathlib.Core.Path.{◌≡◌, refl, sym, ap}
use Prim.Native.Nat.{ℕ, zero, suc, ◌<◌}
use Rattle.bitset.proofs.Pigeon.{too_many}

-- An injective step within the members of P, all of them below m, comes back to each member: here x is missed.
module _ (P : ℕ → Type 0) (m : ℕ) (next : (d : ℕ) → P d → (w : ℕ) × P w)
    (below : (d : ℕ) → P d → d < m)
    (inj : (c d : ℕ) (p : P c) (q : P d) → (next c p).0 ≡ (next d q).0 → c ≡ d)
    (x : ℕ) (px : P x) (miss : (d : ℕ) (p : P d) → (next d p).0 ≡ x → ⊥) where
  walk : ℕ → (w : ℕ) × P w
  walk zero = (x, px)
  walk (suc i) = next (walk i).0 (walk i).1

  walk_inj : (i j : ℕ) → (walk i).0 ≡ (walk j).0 → i ≡ j
  unfolding walk
  walk_inj zero zero e = refl
  walk_inj zero (suc j) e = absurd (miss (walk j).0 (walk j).1 (sym e))
  walk_inj (suc i) zero e = absurd (miss (walk i).0 (walk i).1 e)
  walk_inj (suc i) (suc j) e = ap suc (walk_inj i j (inj (walk i).0 (walk j).0 (walk i).1 (walk j).1 e))

  pub no_miss : ⊥
  no_miss = too_many m (λ i. (walk i).0) (λ i l. below (walk i).0 (walk i).1) (λ i j li lj. walk_inj i j)
