-- Growing along a relation: it gives the least closed set that holds its start, so it needs no more stations than those that it reaches, and no more room than the
-- relation keeps to, and what is known to be grown is left out; and the code, which goes on from the stations that came in last, grows the same. Assumes nothing.
use mathlib.Core.Path.{◌≡◌, sym, ap, ◌∙◌}
use mathlib.Core.Logic.{◌⊎◌, ⊎_elim}
use mathlib.Core.Bool.{Bool, true, false, not, ◌&&◌, ◌||◌}
use Prim.Native.Nat.{ℕ, zero, suc, ◌-◌, ◌^◌, ◌≤◌, ◌<◌}
use native.Mathlib.Nat.{lt_of_lt_of_le}
use native.Mathlib.Omega.{arith}
use lib.Bits.{bit_and, bit_or, and_le_l, or_lt}
use Rattle.bitset.specs.Sets.{has}
use Rattle.bitset.specs.inner.Members.{Within}
use Rattle.bitset.proofs.BoolLaws.{iff, not_both, cases, and_intro, and_l, and_r, or_l, or_r, or_cases}
use Rattle.bitset.proofs.QuantLaws.{any_intro, any_elim}
use Rattle.bitset.proofs.HasLaws.{has_zero, has_or, member_below, ext}
use Rattle.bitset.proofs.SetLaws.{set_of_lt, set_of_elim, has_diff}
use Rattle.bitset.proofs.MachineLaws.{wide}
use Rattle.separator.specs.Components.{spread, grow}
use Rattle.separator.proofs.ComponentLaws.{Closed, grown_closed, grow_keeps}
use Rattle.separator.proofs.NeighbourLaws.{leads}

module _ (n : ℕ) (R : ℕ → ℕ → Bool) (room : ℕ) where
  leads_elim : (w j : ℕ) → leads n R w j ≡ true → (i : ℕ) × (i < n) × (has w i ≡ true) × (R i j ≡ true)
  leads_elim w j e =
      let (i, l, f) = any_elim n (λ i. has w i && R i j) e in
      (i, l, and_l (has w i) (R i j) f, and_r (has w i) (R i j) f)

  -- ---- the least closed set that holds its start

  -- what holds at the start, and is handed on along R into the room, holds at all that is grown
  module _ (P : ℕ → Type 0) (on : (a b : ℕ) → a < n → b < n → R a b ≡ true → has room b ≡ true → P a → P b) where
    abbrev At : ℕ → Type 0
    At v = (j : ℕ) → has v j ≡ true → P j

    spread_all : (v : ℕ) → At v → At (spread n R room v)
    unfolding spread
    spread_all v s j e =
        let (l, f) = set_of_elim n (λ k. has v k || has room k && leads n R v k) j e in
        ⊎_elim (s j) (λ q.
        let (i, li, hi, r) = leads_elim v j (and_r (has room j) (leads n R v j) q) in
        on i j li l r (and_l (has room j) (leads n R v j) q) (s i hi))
        (or_cases (has v j) (has room j && leads n R v j) f)

    pub grow_all : (f v : ℕ) → At v → At (grow f n R room v)
    unfolding grow
    grow_all zero v s = s
    grow_all (suc f) v s = grow_all f (spread n R room v) (spread_all v s)

  -- so it is within each closed set that holds the start
  pub grow_within : (f v w : ℕ) → Closed n R room w → Within n v w → Within n (grow f n R room v) w
  grow_within f v w c s k l e = grow_all (λ k. k < n → has w k ≡ true) (λ a b la lb r d h _. c a b la lb r d (h la)) f v (λ j e l. s j l e) k e l

  pub grow_lt : (f w : ℕ) → w < 2 ^ n → grow f n R room w < 2 ^ n
  unfolding grow spread
  grow_lt zero w h = h
  grow_lt (suc f) w h = grow_lt f (spread n R room w) (set_of_lt n (λ j. has w j || has room j && leads n R w j))

  -- a closed set that holds the start, and nothing that is not grown
  grow_is : (start w : ℕ) → start < 2 ^ n → w < 2 ^ n → Closed n R room w → Within n start w → Within n w (grow n n R room start) → w ≡ grow n n R room start
  grow_is start w hs hw c holds within =
      ext n w (grow n n R room start) hw (grow_lt n start hs)
      (λ k l. iff (has w k) (has (grow n n R room start) k) (within k l) (grow_within n start w c holds k l))

  -- ---- the code

  -- `seen` is grown so far and `last` came in last: no other station of `seen` leads to a station of the room outside `seen`
  pub record Growing (start seen last : ℕ) : Type 0 where
    pub below : seen < 2 ^ n
    pub small : last < 2 ^ n
    pub holds : Within n start seen
    pub part : (k : ℕ) → has last k ≡ true → has seen k ≡ true
    pub settled : (i j : ℕ) → i < n → j < n → R i j ≡ true → has room j ≡ true → has seen i ≡ true → has last i ≡ false → has seen j ≡ true
    pub within : Within n seen (grow n n R room start)

  pub growing_start : (start : ℕ) → start < 2 ^ n → Growing start start start
  growing_start start h =
      record {
        below = h;
        small = h;
        holds = λ k l e. e;
        part = λ k e. e;
        settled = λ i j li lj r d e z. absurd (not_both e z);
        within = grow_keeps n R room n start;
      }

  module _ {start seen last : ℕ} (g : Growing start seen last) where
    -- nothing came in last
    pub growing_end : start < 2 ^ n → last ≡ 0 → seen ≡ grow n n R room start
    growing_end h z = grow_is start seen h g.below closed g.holds g.within
      where
        closed : Closed n R room seen
        closed i j li lj r d e = g.settled i j li lj r d e (ap (λ (w : ℕ). has w i) z ∙ has_zero i)

    -- the whole room came in
    pub growing_full : start < 2 ^ n → Within n room seen → seen ≡ grow n n R room start
    growing_full h all = grow_is start seen h g.below (λ i j li lj r d e. all j lj d) g.holds g.within

    -- the stations that come in next
    abbrev Fresh : ℕ → Type 0
    Fresh next = (k : ℕ) → k < n → has next k ≡ leads n R last k && has room k && not (has seen k)

    pub growing_turn : (next : ℕ) → next < 2 ^ n → Fresh next → Growing start (bit_or seen next) next
    growing_turn next small bits =
        record {
          below = or_lt n seen next g.below small;
          small = small;
          holds = λ k l e. has_or seen next k ∙ or_l (has next k) (g.holds k l e);
          part = λ k e. has_or seen next k ∙ or_r (has seen k) e;
          settled = λ i j li lj r d e z. has_or seen next j ∙ ⊎_elim (joins i j li lj r d) (λ q. absurd (not_both q z)) (members i e);
          within = λ k d e. ⊎_elim (g.within k d) (grows k d) (members k e);
        }
      where
        members : (k : ℕ) → has (bit_or seen next) k ≡ true → (has seen k ≡ true) ⊎ (has next k ≡ true)
        members k e = or_cases (has seen k) (has next k) (sym (has_or seen next k) ∙ e)

        joins : (i j : ℕ) → i < n → j < n → R i j ≡ true → has room j ≡ true → has seen i ≡ true → has seen j || has next j ≡ true
        joins i j li lj r d e = ⊎_elim (or_l (has next j)) new (cases (has seen j))
          where
            new : has seen j ≡ false → has seen j || has next j ≡ true
            new f =
                ⊎_elim
                (λ q. or_r (has seen j) (bits j lj ∙ and_intro (and_intro (any_intro n (λ k. has last k && R k j) i li (and_intro q r)) d) (ap not f)))
                (λ q. absurd (not_both (g.settled i j li lj r d e q) f))
                (cases (has last i))

        grows : (k : ℕ) → k < n → has next k ≡ true → has (grow n n R room start) k ≡ true
        grows k d e =
            let f = and_l (leads n R last k && has room k) (not (has seen k)) (sym (bits k d) ∙ e) in
            let (i, li, hi, r) = leads_elim last k (and_l (leads n R last k) (has room k) f) in
            grown_closed n R room start i k li d r (and_r (leads n R last k) (has room k) f) (g.within i li (g.part i hi))

-- ---- less room

-- a part of the room that R does not lead out of, into the room, is room enough for a start inside it
module _ (n : ℕ) (R : ℕ → ℕ → Bool) (room rest : ℕ) (inside : Within n rest room) (kept : Closed n R room rest) where
  grow_kept : (start : ℕ) → Within n start rest → Within n (grow n n R rest start) rest
  grow_kept start s = grow_within n R rest n start rest (λ a b la lb r d e. d) s

  pub grow_rest : (start : ℕ) → start < 2 ^ n → Within n start rest → grow n n R rest start ≡ grow n n R room start
  grow_rest start h s =
      grow_is n R room start (grow n n R rest start) h (grow_lt n R rest n start h)
      (λ a b la lb r d e. grown_closed n R rest start a b la lb r (kept a b la lb r d (grow_kept start s a la e)) e)
      (grow_keeps n R rest n start)
      (grow_within n R rest n start (grow n n R room start)
      (λ a b la lb r d e. grown_closed n R room start a b la lb r (inside b lb d) e) (grow_keeps n R room n start))

-- a set that is closed, and in what is grown, need not be grown again: only what lies beside it is
module _ (n : ℕ) (R : ℕ → ℕ → Bool) (room start ahead : ℕ) (hs : start < 2 ^ n) (ha : ahead < 2 ^ n) where
  -- outside of it
  abbrev beside : ℕ → ℕ
  beside w = bit_and w ((2 ^ n - 1) - ahead)

  in_beside : (w k : ℕ) → k < n → has w k ≡ true → has ahead k ≡ false → has (beside w) k ≡ true
  in_beside w k l e z = has_diff n w ahead k ha l ∙ and_intro e (ap not z)

  beside_in : (w : ℕ) → Within n (beside w) w
  beside_in w k l e = and_l (has w k) (not (has ahead k)) (sym (has_diff n w ahead k ha l) ∙ e)

  rest : ℕ
  rest = grow n n R (beside room) (beside start)

  both_elim : (k : ℕ) → has (bit_or ahead rest) k ≡ true → (has ahead k ≡ true) ⊎ (has rest k ≡ true)
  both_elim k e = or_cases (has ahead k) (has rest k) (sym (has_or ahead rest k) ∙ e)

  both_intro : (k : ℕ) → (has ahead k ≡ false → has rest k ≡ true) → has (bit_or ahead rest) k ≡ true
  both_intro k f = has_or ahead rest k ∙ ⊎_elim (or_l (has rest k)) (λ z. or_r (has ahead k) (f z)) (cases (has ahead k))

  pub grow_beside : Closed n R room ahead → Within n ahead (grow n n R room start)
      → bit_or ahead (grow n n R (beside room) (beside start)) ≡ grow n n R room start
  unfolding rest
  grow_beside kept within =
      grow_is n R room start (bit_or ahead rest) hs (or_lt n ahead rest ha (grow_lt n R (beside room) n (beside start) (omega (arith, and_le_l start ((2 ^ n - 1) - ahead)))))
      (λ a b la lb r d e. ⊎_elim
      (λ q. has_or ahead rest b ∙ or_l (has rest b) (kept a b la lb r d q))
      (λ q. both_intro b (λ z. grown_closed n R (beside room) (beside start) a b la lb r (in_beside room b lb d z) q))
      (both_elim a e))
      (λ k l e. both_intro k (λ z. grow_keeps n R (beside room) n (beside start) k l (in_beside start k l e z)))
      (λ k l e. ⊎_elim (within k l)
      (grow_within n R (beside room) n (beside start) (grow n n R room start)
      (λ a b la lb r d. grown_closed n R room start a b la lb r (beside_in room b lb d)) (λ j lj f. grow_keeps n R room n start j lj (beside_in start j lj f)) k l)
      (both_elim k e))

-- ---- more stations

-- n stations read as m, where the two relations are the same
pub grow_width : (n m : ℕ) (R Q : ℕ → ℕ → Bool) (room w : ℕ) → n ≤ m → w < 2 ^ n
    → ((i j : ℕ) → i < m → j < m → Q i j ≡ true → (i < n) × (j < n) × (R i j ≡ true)) → ((i j : ℕ) → i < n → j < n → R i j ≡ true → Q i j ≡ true)
    → grow m m Q room w ≡ grow n n R room w
grow_width n m R Q room w most h narrow widen = sym (grow_is m Q room w less (wide most h) (wide most small) closed holds within)
  where
    less : ℕ
    less = grow n n R room w

    small : less < 2 ^ n
    small = grow_lt n R room n w h

    closed : Closed m Q room less
    closed a b wa wb r d e = let (la, lb, s) = narrow a b wa wb r in grown_closed n R room w a b la lb s d e

    holds : Within m w less
    holds k l e = grow_keeps n R room n w k (member_below n w k h e) e

    within : Within m less (grow m m Q room w)
    within k l e =
        grow_within n R room n w (grow m m Q room w)
        (λ a b la lb r. grown_closed m Q room w a b (lt_of_lt_of_le la most) (lt_of_lt_of_le lb most) (widen a b la lb r))
        (λ j lj. grow_keeps m Q room m w j (lt_of_lt_of_le lj most)) k (member_below n less k small e) e
