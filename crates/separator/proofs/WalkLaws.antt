-- Walks: one after the other and back, what they hand on, and that growing reaches exactly the stations that are walked to. Assumes nothing.
use mathlib.Core.Path.{◌≡◌, sym, subst}
use mathlib.Core.Bool.{Bool, true}
use Prim.Native.Nat.{ℕ, ◌^◌, ◌<◌}
use Rattle.bitset.specs.Sets.{has}
use Rattle.bitset.proofs.SetLaws.{has_one}
use Rattle.separator.specs.Choice.{Walk, stay, step}
use Rattle.separator.specs.Components.{grow}
use Rattle.separator.proofs.ComponentLaws.{grown_closed, grow_keeps}
use Rattle.separator.proofs.GrowLaws.{grow_all}

module _ {R : ℕ → ℕ → Bool} {In : ℕ → Type 0} where
  pub walk_start : {c d : ℕ} → Walk R In c d → In c
  walk_start (stay k) = k
  walk_start (step w r k) = walk_start w

  pub walk_end : {c d : ℕ} → Walk R In c d → In d
  walk_end (stay k) = k
  walk_end (step w r k) = k

  pub walk_on : {c d e : ℕ} → Walk R In c d → Walk R In d e → Walk R In c e
  walk_on v (stay k) = v
  walk_on v (step w r k) = step (walk_on v w) r k

  -- what holds at its start and is handed on at each step holds at its end
  pub walk_keeps : (P : ℕ → Type 0) → ((i j : ℕ) → In i → In j → R i j ≡ true → P i → P j) → {c d : ℕ} → Walk R In c d → P c → P d
  walk_keeps P on (stay k) p = p
  walk_keeps P on (step {d = d} {e = e} w r k) p = on d e (walk_end w) k r (walk_keeps P on w p)

-- along a relation that holds where the first does, at stations of a wider kind
pub walk_map : {R Q : ℕ → ℕ → Bool} {In On : ℕ → Type 0} {c d : ℕ} → ((i j : ℕ) → In i → In j → R i j ≡ true → Q i j ≡ true) → ((i : ℕ) → In i → On i)
    → Walk R In c d → Walk Q On c d
walk_map also wider (stay {c = c} k) = stay (wider c k)
walk_map also wider (step {d = d} {e = e} w r k) = step (walk_map also wider w) (also d e (walk_end w) k r) (wider e k)

-- along a relation that holds the other way round
pub walk_back : {R Q : ℕ → ℕ → Bool} {In : ℕ → Type 0} {c d : ℕ} → ((i j : ℕ) → In i → In j → R i j ≡ true → Q j i ≡ true) → Walk R In c d → Walk Q In d c
walk_back swap (stay k) = stay k
walk_back swap (step {d = d} {e = e} w r k) = walk_on (step (stay k) (swap d e (walk_end w) k r) (walk_end w)) (walk_back swap w)

-- ---- growing

module _ (n : ℕ) (R : ℕ → ℕ → Bool) (room : ℕ) (In : ℕ → Type 0) where
  -- all of the room is In: each station that is grown is walked to from one of the start
  module _ (inside : (i : ℕ) → has room i ≡ true → In i) where
    pub grown_walked : (v : ℕ) → ((i : ℕ) → has v i ≡ true → In i) → (j : ℕ) → has (grow n n R room v) j ≡ true → (k : ℕ) × (has v k ≡ true) × Walk R In k j
    grown_walked v h =
        grow_all n R room (λ j. (k : ℕ) × (has v k ≡ true) × Walk R In k j) (λ a b _ _ r d (k, e, w). (k, e, step w r (inside b d)))
        n v (λ j e. (j, e, stay (h j e)))

    -- a start of one station
    pub grown_from : (k : ℕ) → In k → (j : ℕ) → has (grow n n R room (2 ^ k)) j ≡ true → Walk R In k j
    grown_from k h j e =
        let (i, f, w) = grown_walked (2 ^ k) (λ i f. subst In (sym (has_one k i f)) h) j e in
        subst (λ (i : ℕ). Walk R In i j) (has_one k i f) w

  -- and only the room is In: each station that is walked to is grown
  pub walked_grown : ((i : ℕ) → In i → (i < n) × (has room i ≡ true)) → (v k j : ℕ) → has v k ≡ true → Walk R In k j → has (grow n n R room v) j ≡ true
  walked_grown only v k j e w =
      walk_keeps (λ j. has (grow n n R room v) j ≡ true) (λ a b p q r. grown_closed n R room v a b (only a p).0 (only b q).0 r (only b q).1) w
      (grow_keeps n R room n v k (only k (walk_start w)).0 e)
