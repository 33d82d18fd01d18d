-- A walk along the lowest legs, as code drives it: one turn, and where it ends. Assumes nothing.
use mathlib.Core.Path.{◌≡◌, refl, sym, ap, ap₂, ◌∙◌, subst}
use mathlib.Core.Bool.{Bool, ◌||◌, or_comm}
use mathlib.Core.Logic.{⊎_elim}
use mathlib.Core.List.{List}
use Prim.Native.Nat.{ℕ, zero, suc, ◌+◌, ◌-◌, ◌*◌, ◌%◌, ◌^◌, ◌≤◌, ◌<◌}
use native.Mathlib.Nat.{zero-add, suc-add, lt_of_lt_of_le}
use native.Mathlib.Numerals.{add-one}
use native.Mathlib.Omega.{arith}
use lib.Bits.{bit_or, or_lt}
use lib.Count.{count_trailing_zeros}
use lib.Dec.{eqb}
use lib.ListN.{get_or}
use lib.Pow.{pow-lt}
use borrow.Author.Tests.{ne_eqb}
use Rattle.bitset.specs.Sets.{has, any, first, set_of}
use Rattle.bitset.specs.Upto.{row}
use Rattle.bitset.proofs.BoolLaws.{eqb_swap, not_both}
use Rattle.bitset.proofs.FirstLaws.{first_found}
use Rattle.bitset.proofs.HasLaws.{has_zero, member_below}
use Rattle.bitset.proofs.LeastLaws.{trailing_least}
use Rattle.bitset.proofs.MachineLaws.{wide, trailing_first, shl_one, has_insert}
use Rattle.bitset.proofs.QuantLaws.{below?}
use Rattle.bitset.proofs.SetLaws.{has_set_of, set_of_none, set_of_lt, eq_set_of, set_of_ext}
use Rattle.circuit.specs.Legs.{leg}
use Rattle.circuit.specs.inner.Tables.{Square}
use Rattle.filter.specs.Chain.{nexts, along, joined}
use Rattle.filter.proofs.NextLaws.{next_at, next_beyond}

module _ (n : ℕ) (m : List ℕ) (le : n ≤ 64) where
  abbrev s : List ℕ
  s = nexts n m

  -- an empty row leads nowhere
  next_none : (i : ℕ) → i < n → row m i ≡ 0 → n ≤ get_or s i n
  unfolding leg
  next_none i l e =
      let q = next_at n m i l in
      ⊎_elim (λ (d : get_or s i n < n). absurd (not_both (first_found n (has (row m i)) (subst (λ (x : ℕ). x < n) q d)) (ap (λ (w : ℕ). has w (first n (leg m i))) e ∙ has_zero (first n (leg m i)))))
      (λ g. g) (below? (get_or s i n) n)

  -- another leads to its lowest
  next_some : (i t : ℕ) → i < n → 0 < row m i → row m i < 2 ^ n → t ≡ count_trailing_zeros 64 (row m i) → (t < n) × (get_or s i n ≡ t)
  unfolding leg
  next_some i t l p h e =
      let w = row m i in
      let low = member_below n w (count_trailing_zeros 64 w) h (trailing_least 64 w p (wide le h)).member in
      (omega arith, next_at n m i l ∙ trailing_first le w p h ∙ sym e)

  module _ (a : ℕ) where
    -- one leg more
    walk_more : (k c : ℕ) → c < n → along n s (suc k) a ≡ c → bit_or (set_of n (joined n s k a)) (2 ^ c) ≡ set_of n (joined n s (suc k) a)
    unfolding joined any
    walk_more k c l e =
        eq_set_of n (bit_or (set_of n (joined n s k a)) (2 ^ c)) (joined n s (suc k) a) (or_lt n (set_of n (joined n s k a)) (2 ^ c) (set_of_lt n (joined n s k a)) (pow-lt l))
        (λ b lb. has_insert (set_of n (joined n s k a)) c b ∙ ap₂ (λ (x y : Bool). x || y) (has_set_of n (joined n s k a) b lb) (eqb_swap b c ∙ ap (λ (x : ℕ). eqb x b) (sym e))
        ∙ or_comm (joined n s k a b) (eqb (along n s (suc k) a) b))

    -- where no leg leads on, more turns find nothing
    beyond : (k d : ℕ) → n ≤ along n s (suc k) a → n ≤ along n s (suc (d + k)) a
    beyond k zero g = rw zero-add g
    beyond k (suc d) g = rw suc-add (let e = next_beyond n m (along n s (suc (d + k)) a) (beyond k d g) in omega arith)

    stopped : (k d b : ℕ) → b < n → n ≤ along n s (suc k) a → joined n s (d + k) a b ≡ joined n s k a b
    unfolding joined any
    stopped k zero b l g = rw zero-add refl
    stopped k (suc d) b l g =
        rw suc-add (ap₂ (λ (x y : Bool). x || y) (ne_eqb (along n s (suc (d + k)) a) b (λ e. let h = beyond k d g in omega arith)) (stopped k d b l g))

    walk_stop : (k f : ℕ) → k ≤ f → n ≤ along n s (suc k) a → set_of n (joined n s k a) ≡ set_of n (joined n s f a)
    walk_stop k f h g =
        let e : (f - k) + k ≡ f = omega arith in
        set_of_ext n (joined n s k a) (joined n s f a) (λ b l. sym (stopped k (f - k) b l g) ∙ ap (λ (x : ℕ). joined n s x a b) e)

    walk_turn : (k c met : ℕ) → c < n → along n s k a ≡ c → met ≡ set_of n (joined n s k a) → (t : ℕ) → t < n → get_or s c n ≡ t
        → (along n s (k + 1) a ≡ t) × (bit_or met ((1 * 2 ^ t) % 2 ^ 64) ≡ set_of n (joined n s (k + 1) a))
    walk_turn k c met l e q t lt d =
        let on : along n s (suc k) a ≡ t = ap (λ (x : ℕ). get_or s x n) e ∙ d in
        rw add-one (on, ap₂ (λ (x y : ℕ). bit_or x y) q (shl_one 64 t (lt_of_lt_of_le lt le)) ∙ walk_more k t lt on)

-- ---- the loop

-- k legs lead from a to c, and `met` has the stations on the way
abbrev pub Walked : List ℕ → ℕ → ℕ → ℕ → ℕ → Type 0
Walked m a k c met = (n : ℕ) → n ≤ 64 → a < n → Square n m → (c < n) × (along n (nexts n m) k a ≡ c) × (met ≡ set_of n (joined n (nexts n m) k a))

module _ (m : List ℕ) (a : ℕ) where
  pub walked_start : Walked m a 0 a 0
  unfolding joined any
  walked_start n le l sq = (l, refl, sym (set_of_none n))

  module _ (k c met : ℕ) (walked : Walked m a k c met) where
    pub walked_turn : (t : ℕ) → 0 < row m c → t ≡ count_trailing_zeros 64 (row m c) → Walked m a (k + 1) t (bit_or met ((1 * 2 ^ t) % 2 ^ 64))
    walked_turn t p e n le l sq =
        let w = walked n le l sq in
        let f = next_some n m le c t w.0 p (sq c w.0) e in
        let on = walk_turn n m le a k c met w.0 w.1 w.2 t f.0 f.1 in
        (f.0, on.0, on.1)

    -- where the row is empty, no leg leads on
    pub walked_out : (f n : ℕ) → k ≤ f → row m c ≡ 0 → n ≤ 64 → a < n → Square n m → met ≡ set_of n (joined n (nexts n m) f a)
    walked_out f n h z le l sq =
        let w = walked n le l sq in
        w.2 ∙ walk_stop n m le a k f h (subst (λ (x : ℕ). n ≤ get_or (nexts n m) x n) (sym w.1) (next_none n m le c w.0 z))
