-- The ends of the pairs on which a mark stands, as the code finds them: the heads of one station, and a walk over the stations of a level.
-- Assumes nothing.
use mathlib.Core.Path.{◌≡◌, refl, sym, ap, ap₂, ◌∙◌}
use mathlib.Core.Bool.{Bool, true, false, not, ◌&&◌, ◌||◌, and_comm, or_assoc, or-false}
use mathlib.Core.List.{List}
use Prim.Native.Nat.{ℕ, zero, suc, ◌-◌, ◌*◌, ◌%◌, ◌^◌, ◌<◌}
use native.Mathlib.Omega.{arith}
use lib.Dec.{eqb, ltb}
use lib.Bits.{bit_and, bit_or, and_le_l, and_le_r, or_lt}
use lib.Count.{count_trailing_zeros}
use borrow.Author.Tests.{eqb-true, ltb-true, lt-ltb}
use Rattle.bitset.specs.Sets.{has, set_of, any, meet}
use Rattle.bitset.specs.inner.Members.{Parts}
use Rattle.bitset.proofs.BoolLaws.{iff, eqb_swap, and_intro, and_l, and_r, taut3}
use Rattle.bitset.proofs.HasLaws.{has_zero, has_and, has_or}
use Rattle.bitset.proofs.SetLaws.{has_set_of, eq_set_of, word_lt, word_has}
use Rattle.bitset.proofs.OnesLaws.{has_pos}
use Rattle.bitset.proofs.QuantLaws.{any_intro, any_elim, any_ext}
use Rattle.bitset.proofs.LeastLaws.{trailing_least, has_clear}
use Rattle.bitset.proofs.MemberLaws.{any_least, any_empty}
use Rattle.bitset.proofs.MachineLaws.{shl_one, has_remove}
use Rattle.bitset.specs.Upto.{row}
use Rattle.circuit.specs.Legs.{leg, col}
use Rattle.separator.specs.Components.{grow}
use Rattle.separator.specs.Level.{led_to, joins, stands, marked}
use Rattle.separator.specs.inner.Reach.{entered}
use Rattle.separator.specs.inner.Spares.{part_of, EndsOf}

-- ---- the small functions

module _ (t : List ℕ) where
  -- the stations of s that the component w joins i to are those that have a leg from where the ways in lead
  pub joined_is : (s w i v : ℕ) → s < 2 ^ 64 → w < 2 ^ 64 → v ≡ entered t (grow 64 64 (leg t) w (bit_and (row t i) w))
      → bit_and v s ≡ set_of 64 (λ j. has s j && joins 64 t w i j)
  unfolding entered joins led_to meet col leg
  joined_is s w i v hs hw e =
      eq_set_of 64 (bit_and v s) _ (omega (arith, and_le_r v s)) (λ j l.
      has_and v s j ∙ and_comm (has v j) (has s j) ∙ ap (λ (x : Bool). has s j && x)
      (word_has 64 (λ j. any 64 (λ d. has into d && has (row t d) j)) e j l
      ∙ any_ext 64 _ _ (λ d ld.
      and_comm (has into d) (has (row t d) j)
      ∙ ap₂ (λ (x y : Bool). x && y) (sym (has_set_of 64 (λ d. has (row t d) j) d ld)) (ap (λ (u : ℕ). has (grow 64 64 (leg t) w u) d) ways))))
    where
      into : ℕ
      into = grow 64 64 (leg t) w (bit_and (row t i) w)

      ways : bit_and (row t i) w ≡ set_of 64 (λ c. has (row t i) c && has w c)
      ways = eq_set_of 64 (bit_and (row t i) w) _ (omega (arith, and_le_r (row t i) w)) (λ c l. has_and (row t i) w c)

-- the component of a mark
module _ (cs : List ℕ) where
  pub part_bare : (m : ℕ) → m ≡ 0 → 0 ≡ part_of cs m
  part_bare m z = rw z (unfold part_of in refl)

  pub part_at : (m : ℕ) → 0 < m → row cs (m - 1) ≡ part_of cs m
  unfolding part_of
  part_at zero p = absurd (omega arith)
  part_at (suc c) p = let place : suc c - 1 ≡ c = omega arith in ap (row cs) place

-- the mark m, bare or of the component at place m - 1
module _ (t : List ℕ) (s : ℕ) (cs : List ℕ) where
  pub heads_bare : (i m : ℕ) → m ≡ 0 → s < 2 ^ 64 → bit_and (row t i) s ≡ set_of 64 (λ j. has s j && stands 64 t cs i j m)
  heads_bare i m z h = rw z (unfold stands in unfold leg in (
      eq_set_of 64 (bit_and (row t i) s) _ (omega (arith, and_le_r (row t i) s)) (λ j l. has_and (row t i) s j ∙ and_comm (has (row t i) j) (has s j))))

  pub heads_through : (i m v : ℕ) → 0 < m → v ≡ set_of 64 (λ j. has s j && joins 64 t (row cs (m - 1)) i j)
      → v ≡ set_of 64 (λ j. has s j && stands 64 t cs i j m)
  unfolding stands
  heads_through i zero v p e = absurd (omega arith)
  heads_through i (suc c) v p e =
      let place : suc c - 1 ≡ c = omega arith in
      e ∙ ap (λ (z : ℕ). set_of 64 (λ j. has s j && joins 64 t (row cs z) i j)) place

  -- `v & !(1 << i)`: without i these are the heads of the pairs of i
  pub heads_is : (i m v : ℕ) → i < 64 → has s i ≡ true → v ≡ set_of 64 (λ j. has s j && stands 64 t cs i j m)
      → bit_and v ((2 ^ 64 - 1) - (1 * 2 ^ i) % 2 ^ 64) ≡ set_of 64 (λ j. marked 64 t s cs i j m)
  unfolding marked
  heads_is i m v l hi e =
      ap (λ (x : ℕ). bit_and v ((2 ^ 64 - 1) - x)) (shl_one 64 i l)
      ∙ eq_set_of 64 (bit_and v ((2 ^ 64 - 1) - 2 ^ i)) _ (omega (arith, and_le_l v ((2 ^ 64 - 1) - 2 ^ i), word_lt 64 on e))
      (λ j lj. has_remove 64 v i j l lj
      ∙ ap₂ (λ (x y : Bool). x && not y) (word_has 64 on e j lj) (eqb_swap j i)
      ∙ taut3 (λ a b c. (a && b) && not c) (λ a b c. (true && a && not c) && b) refl (has s j) (stands 64 t cs i j m) (eqb i j)
      ∙ ap (λ (x : Bool). x && has s j && not (eqb i j) && stands 64 t cs i j m) (sym hi))
    where
      on : ℕ → Bool
      on j = has s j && stands 64 t cs i j m

-- ---- the walk over the stations of s, the least first

-- the least member is a member
pub least_in : {w k v : ℕ} → w < 2 ^ 64 → Parts w k v → has w k ≡ true
least_in {w} h P = ap (has w) P.least ∙ (trailing_least 64 w P.nonempty h).member

-- `on i j` says that the mark stands on the pair (i, j), as it does for stations i of s alone

pub record Gathering (on : ℕ → ℕ → Bool) (s rest tails heads : ℕ) : Type 0 where
  pub rest_fits : rest < 2 ^ 64
  pub tails_fit : tails < 2 ^ 64
  pub heads_fit : heads < 2 ^ 64
  pub within : (k : ℕ) → has rest k ≡ true → has s k ≡ true
  pub tail : (k : ℕ) → k < 64 → has tails k || has rest k && any 64 (on k) ≡ has s k && any 64 (on k)
  pub head : (k : ℕ) → k < 64 → has heads k || any 64 (λ i. has rest i && on i k) ≡ any 64 (λ i. has s i && on i k)

module _ (on : ℕ → ℕ → Bool) (s : ℕ) where
  pub gather_start : {rest : ℕ} → rest ≡ s → s < 2 ^ 64 → Gathering on s rest 0 0
  gather_start e h =
      rw e record {
        rest_fits = h;
        tails_fit = omega arith;
        heads_fit = omega arith;
        within = λ k e. e;
        tail = λ k l. ap (λ (x : Bool). x || has s k && any 64 (on k)) (has_zero k);
        head = λ k l. ap (λ (x : Bool). x || any 64 (λ i. has s i && on i k)) (has_zero k);
      }

  -- a turn at the least station of the rest
  gather_least : {rest tails heads : ℕ} (more tails' : ℕ) → Gathering on s rest tails heads → 0 < rest
      → more ≡ set_of 64 (on (count_trailing_zeros 64 rest))
      → tails' ≡ set_of 64 (λ k. has tails k || eqb k (count_trailing_zeros 64 rest) && ltb 0 more)
      → Gathering on s (bit_and rest (rest - 1)) tails' (bit_or heads more)
  gather_least {rest} {tails} {heads} more tails' v p hm ht =
      record {
        rest_fits = omega (arith, v.rest_fits, and_le_l rest (rest - 1));
        tails_fit = word_lt 64 tailed ht;
        heads_fit = or_lt 64 heads more v.heads_fit fits;
        within = λ k q. v.within k (and_l (has rest k) (not (eqb k i)) (sym (has_clear 64 rest k p v.rest_fits) ∙ q));
        tail = λ k l.
            ap₂ (λ (x y : Bool). x || y && any 64 (on k)) (word_has 64 tailed ht k l) (has_clear 64 rest k p v.rest_fits)
            ∙ step k (eqb k i) refl ∙ v.tail k l;
        head = λ k l.
            ap (λ (x : Bool). x || left k) (has_or heads more k ∙ ap (λ (x : Bool). has heads k || x) (at k l))
            ∙ or_assoc (has heads k) (on i k) (left k)
            ∙ ap (λ (x : Bool). has heads k || x) (sym (any_least 64 rest (λ i. on i k) p v.rest_fits))
            ∙ v.head k l;
      }
    where
      i : ℕ
      i = count_trailing_zeros 64 rest

      tailed : ℕ → Bool
      tailed k = has tails k || eqb k i && ltb 0 more

      left : ℕ → Bool
      left k = any 64 (λ i. has (bit_and rest (rest - 1)) i && on i k)

      fits : more < 2 ^ 64
      fits = word_lt 64 (on i) hm

      at : (k : ℕ) → k < 64 → has more k ≡ on i k
      at k l = word_has 64 (on i) hm k l

      some : ltb 0 more ≡ any 64 (on i)
      some =
          iff (ltb 0 more) (any 64 (on i))
          (λ q.
          let k : ℕ = count_trailing_zeros 64 more in
          let r = trailing_least 64 more (ltb-true 0 more q) fits in
          any_intro 64 (on i) k r.below (sym (at k r.below) ∙ r.member))
          (λ q. let r = any_elim 64 (on i) q in lt-ltb 0 more (has_pos more r.0 (at r.0 r.1 ∙ r.2)))

      step : (k : ℕ) (b : Bool) → eqb k i ≡ b
          → (has tails k || b && ltb 0 more) || has rest k && not b && any 64 (on k) ≡ has tails k || has rest k && any 64 (on k)
      step k true q =
          let here : k ≡ i = eqb-true k i q in
          let m : has rest k ≡ true = ap (has rest) here ∙ (trailing_least 64 rest p v.rest_fits).member in
          let f : ltb 0 more ≡ any 64 (on k) = some ∙ ap (λ (x : ℕ). any 64 (on x)) (sym here) in
          ap₂ (λ (x y : Bool). (has tails k || x) || y && false && any 64 (on k)) f m
          ∙ or-false (has tails k || any 64 (on k)) ∙ ap (λ (x : Bool). has tails k || x && any 64 (on k)) (sym m)
      step k false q =
          taut3 (λ a b c. (a || false) || b && true && c) (λ a b c. a || b && c) refl (has tails k) (has rest k) (any 64 (on k))

  pub gather_turn : {rest tails heads i others : ℕ} (more tails' : ℕ) → Gathering on s rest tails heads → Parts rest i others
      → more ≡ set_of 64 (on i) → tails' ≡ set_of 64 (λ k. has tails k || eqb k i && ltb 0 more) → Gathering on s others tails' (bit_or heads more)
  gather_turn {tails = tails} more tails' v P hm ht =
      let ends = λ (k : ℕ). set_of 64 (λ j. has tails j || eqb j k && ltb 0 more) in
      rw P.others (gather_least more tails' v P.nonempty (hm ∙ ap (λ (k : ℕ). set_of 64 (on k)) P.least) (ht ∙ ap ends P.least))

  pub gather_end : {rest tails heads : ℕ} → ((i j : ℕ) → on i j ≡ true → has s i ≡ true) → Gathering on s rest tails heads → rest ≡ 0
      → EndsOf on tails heads
  gather_end {rest} {tails} {heads} only v z =
      record {
        tail = eq_set_of 64 tails _ v.tails_fit (λ k l.
            sym (or-false (has tails k)) ∙ ap (λ (x : Bool). has tails k || x && any 64 (on k)) (sym (ap (λ (w : ℕ). has w k) z ∙ has_zero k))
            ∙ v.tail k l ∙ iff (has s k && any 64 (on k)) (any 64 (on k)) (and_r (has s k) (any 64 (on k)))
            (λ e. let r = any_elim 64 (on k) e in and_intro (only k r.0 r.2) e));
        head = eq_set_of 64 heads _ v.heads_fit (λ k l.
            sym (or-false (has heads k)) ∙ ap (λ (x : Bool). has heads k || x) (sym (any_empty 64 (λ i. on i k)))
            ∙ ap (λ (w : ℕ). has heads k || any 64 (λ i. has w i && on i k)) (sym z) ∙ v.head k l
            ∙ any_ext 64 _ _ (λ i li. iff (has s i && on i k) (on i k) (and_r (has s i) (on i k)) (λ e. and_intro (only i k e) e)));
      }
