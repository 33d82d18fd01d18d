-- Steps between the numbers below n (a step to n or more leads nowhere) and the steps that undo them; their walks. Assumes nothing.
use mathlib.Core.Path.{◌≡◌, refl, sym, ap, ◌∙◌, subst}
use mathlib.Core.Logic.{◌≢◌, ⊎_elim}
use Prim.Native.Nat.{ℕ, zero, suc, ◌-◌, ◌≤◌, ◌<◌}
use native.Mathlib.Decide.{dec_lt}
use native.Mathlib.Nat.{eq-or-lt_of_le}
use native.Mathlib.Omega.{arith}
use Rattle.bitset.proofs.Pigeon.{Once, too_many, covers}
use Rattle.bitset.proofs.QuantLaws.{below?}
use Rattle.circuit.specs.Round.{iter}
use Rattle.circuit.proofs.Iterate.{iter_on, iter_swap}

pub record Mates (n : ℕ) (f g : ℕ → ℕ) : Type 0 where
  pub there : (i : ℕ) → f i < n → (i < n) × (g (f i) ≡ i)
  pub back : (j : ℕ) → g j < n → (j < n) × (f (g j) ≡ j)

pub mates_swap : {n : ℕ} {f g : ℕ → ℕ} → Mates n f g → Mates n g f
mates_swap m = record { there = m.back; back = m.there }

module _ {n : ℕ} {f g : ℕ → ℕ} (m : Mates n f g) where
  -- a walk that ends below n stays there
  pub early : (j k i : ℕ) → j ≤ k → iter f k i < n → iter f j i < n
  early j zero i h l = let z : j ≡ 0 = omega arith in subst (λ (j : ℕ). iter f j i < n) (sym z) l
  early j (suc k) i h l =
      ⊎_elim (λ (q : j ≡ suc k). subst (λ (j : ℕ). iter f j i < n) (sym q) l) (λ s. early j k i (omega arith) (m.there (iter f k i) l).0) (eq-or-lt_of_le h)

  pub undo : (k i : ℕ) → iter f k i < n → iter g k (iter f k i) ≡ i
  undo zero i l = refl
  undo (suc k) i l =
      let t = m.there (iter f k i) l in
      iter_swap g 1 k (f (iter f k i)) ∙ ap (iter g k) t.1 ∙ undo k i t.0

  -- two walks of one length that meet start at one place
  pub same_start : (k a b : ℕ) → iter f k b < n → iter f k a ≡ iter f k b → a ≡ b
  same_start k a b l e = sym (undo k a (subst (λ (x : ℕ). x < n) (sym e) l)) ∙ ap (iter g k) e ∙ undo k b l

  -- k steps lead from a to b where k steps back lead from b to a
  pub turned : (k a b : ℕ) → b < n → iter f k a ≡ b → iter g k b ≡ a
  turned k a b l e = ap (iter g k) (sym e) ∙ undo k a (subst (λ (x : ℕ). x < n) (sym e) l)

  -- a walk that comes back to c has a step into c
  pub entered : (d c : ℕ) → 0 < d → c < n → iter f d c ≡ c → g c < n
  entered zero c p l e = absurd (omega arith)
  entered (suc d) c p l e =
      let t = m.there (iter f d c) (subst (λ (x : ℕ). x < n) (sym e) l) in
      subst (λ (x : ℕ). x < n) (sym (ap g (sym e) ∙ t.1)) t.0

  -- a walk that does not come back to its start is nowhere twice
  once : (k c : ℕ) → ((j : ℕ) → j < k → iter f j c < n) → ((d : ℕ) → 0 < d → d < k → iter f d c ≢ c) → Once (λ j. iter f j c) k
  once k c inside away a b la lb e = go (dec_lt a b) (dec_lt b a)
    where
      apart : (a b : ℕ) → a < b → b < k → iter f a c ≢ iter f b c
      apart a b l lb e =
          away (b - a) (omega arith) (omega arith)
          (sym (same_start a c (iter f (b - a) c) (subst (λ (x : ℕ). x < n) (sym whole) (inside b lb)) (e ∙ sym whole)))
        where
          whole : iter f a (iter f (b - a) c) ≡ iter f b c
          whole = iter_on f a (b - a) b c (omega arith)

      go : Dec (a < b) → Dec (b < a) → a ≡ b
      go (yes l) d = absurd (apart a b l lb e)
      go (no p) (yes l) = absurd (apart b a l la (sym e))
      go (no p) (no q) = omega arith

  -- from where no step leads in, fewer than n steps can be taken
  pub walk_short : (j e : ℕ) → n ≤ g e → iter f j e < n → j < n
  walk_short j e out l = ⊎_elim (λ h. h) (λ h. absurd (long h)) (below? j n)
    where
      long : n ≤ j → ⊥
      long h =
          let inside : (k : ℕ) → k < suc n → iter f k e < n = λ k q. early k j e (omega arith) l in
          too_many n (λ k. iter f k e) inside
          (once (suc n) e inside (λ d p q back. let s = entered d e p (inside 0 (omega arith)) back in omega arith))

  -- a walk that stays below n and is not back before n steps is everywhere
  pub everywhere : (c : ℕ) → ((k : ℕ) → k < n → iter f k c < n) → ((d : ℕ) → 0 < d → d < n → iter f d c ≢ c) → (j : ℕ) → j < n → (k : ℕ) × (k < n) × (iter f k c ≡ j)
  everywhere c inside away = covers n (λ k. iter f k c) inside (once n c inside away)
