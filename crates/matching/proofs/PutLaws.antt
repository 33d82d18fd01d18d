-- A function changed at one place, as a list is by a store. Assumes nothing.
use mathlib.Core.Path.{◌≡◌, refl, ap, ◌∙◌}
use mathlib.Core.Logic.{◌⊎◌, inl, inr, ⊎_elim}
use mathlib.Core.List.{List}
use Prim.Native.Nat.{ℕ, ◌<◌}
use native.Mathlib.Decide.{ℕ_discrete}
use lib.ListN.{length, set}
use lib.Seq.{get_or-set_same, get_or-set_other}
use Rattle.bitset.specs.Upto.{row}

-- g is f, but v at k
abbrev pub Put : (ℕ → ℕ) → ℕ → ℕ → (ℕ → ℕ) → Type 0
Put f k v g = (e : ℕ) → ((e ≡ k) × (g e ≡ v)) ⊎ ((e ≡ k → ⊥) × (g e ≡ f e))

choose : {A : Type 0} → Dec A → ℕ → ℕ → ℕ
choose (yes e) a b = a
choose (no h) a b = b

pub put : (ℕ → ℕ) → ℕ → ℕ → ℕ → ℕ
put f k v e = choose (ℕ_discrete e k) v (f e)

pub put_is : (f : ℕ → ℕ) (k v : ℕ) → Put f k v (put f k v)
unfolding put choose
put_is f k v e = go (ℕ_discrete e k)
  where
    go : (d : Dec (e ≡ k)) → ((e ≡ k) × (choose d v (f e) ≡ v)) ⊎ ((e ≡ k → ⊥) × (choose d v (f e) ≡ f e))
    go (yes q) = inl (q, refl)
    go (no q) = inr (q, refl)

pub put_set : (l : List ℕ) (k v : ℕ) → k < length l → Put (row l) k v (row (set l k v))
put_set l k v b e = go (ℕ_discrete e k)
  where
    go : Dec (e ≡ k) → ((e ≡ k) × (row (set l k v) e ≡ v)) ⊎ ((e ≡ k → ⊥) × (row (set l k v) e ≡ row l e))
    go (yes q) = inl (q, ap (row (set l k v)) q ∙ get_or-set_same l k v 0 b)
    go (no q) = inr (q, get_or-set_other l k e v 0 q)

module _ {f : ℕ → ℕ} {k v : ℕ} {g : ℕ → ℕ} (is : Put f k v g) where
  pub put_same : (e : ℕ) → e ≡ k → g e ≡ v
  put_same e q = ⊎_elim (λ r. r.1) (λ r. absurd (r.0 q)) (is e)

  pub put_other : (e : ℕ) → (e ≡ k → ⊥) → g e ≡ f e
  put_other e q = ⊎_elim (λ r. absurd (q r.0)) (λ r. r.1) (is e)
