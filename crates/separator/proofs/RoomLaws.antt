-- Growing inside a room as the code does it: `left` is what of the room is not in yet, and `last` came in last. Words of 64 bits. Assumes nothing.
use mathlib.Core.Path.{◌≡◌, refl, sym, ap, ap₂, ◌∙◌, subst}
use mathlib.Core.Bool.{Bool, true, false, not, ◌&&◌, ◌||◌, and-false}
use Prim.Native.Nat.{ℕ, ◌-◌, ◌^◌, ◌<◌}
use native.Mathlib.Omega.{arith}
use lib.Bits.{bit_and, bit_or, and_le_l, or_lt, or_zero_r}
use lib.Count.{ones, count_trailing_zeros}
use Rattle.bitset.specs.Sets.{has, set_of}
use Rattle.bitset.proofs.BoolLaws.{clash, and_intro, and_l, and_r, or_r, taut2, taut3}
use Rattle.bitset.proofs.HasLaws.{has_zero, has_and, has_or, ext}
use Rattle.bitset.proofs.SetLaws.{has_diff, word_lt, word_has}
use Rattle.bitset.proofs.OnesLaws.{ones_less}
use Rattle.bitset.proofs.LeastLaws.{trailing_least}
use Rattle.separator.specs.Components.{grow}
use Rattle.separator.proofs.NeighbourLaws.{leads}
use Rattle.separator.proofs.GrowLaws.{Growing, growing_start, growing_turn, growing_end, growing_full}

module _ (R : ℕ → ℕ → Bool) (room start : ℕ) where
  -- what is grown so far
  abbrev pub seen : ℕ → ℕ
  seen left = bit_or start (bit_and room ((2 ^ 64 - 1) - left))

  seen_has : (left k : ℕ) → left < 2 ^ 64 → k < 64 → has (seen left) k ≡ has start k || has room k && not (has left k)
  seen_has left k h l = has_or start (bit_and room ((2 ^ 64 - 1) - left)) k ∙ ap (λ (b : Bool). has start k || b) (has_diff 64 room left k h l)

  pub record Leaving (left last : ℕ) : Type 0 where
    pub fits : left < 2 ^ 64
    pub inside : (k : ℕ) → k < 64 → has left k ≡ has room k && not (has (seen left) k)
    pub growing : Growing 64 R room start (seen left) last

  module _ (hr : room < 2 ^ 64) (hs : start < 2 ^ 64) where
    seen_lt : (left : ℕ) → seen left < 2 ^ 64
    seen_lt left = or_lt 64 start (bit_and room ((2 ^ 64 - 1) - left)) hs (omega (arith, and_le_l room ((2 ^ 64 - 1) - left)))

    -- at first what is left of the room is all but the start
    abbrev unseen : ℕ
    unseen = bit_and room ((2 ^ 64 - 1) - start)

    unseen_fits : unseen < 2 ^ 64
    unseen_fits = omega (arith, and_le_l room ((2 ^ 64 - 1) - start))

    pub seen_start : seen unseen ≡ start
    seen_start =
        ext 64 (seen unseen) start (seen_lt unseen) hs (λ k l.
        seen_has unseen k unseen_fits l ∙ ap (λ (b : Bool). has start k || has room k && not b) (has_diff 64 room start k hs l)
        ∙ taut2 (λ a r. a || r && not (r && not a)) (λ a r. a) refl (has start k) (has room k))

    pub leaving_start : Leaving unseen start
    leaving_start =
        record {
          fits = unseen_fits;
          inside = λ k l. has_diff 64 room start k hs l ∙ ap (λ (w : ℕ). has room k && not (has w k)) (sym seen_start);
          growing = subst (λ (w : ℕ). Growing 64 R room start w start) (sym seen_start) (growing_start 64 R room start hs);
        }

    module _ {left last near : ℕ} (g : Leaving left last) (e : near ≡ set_of 64 (leads 64 R last)) where
      -- what comes in next
      abbrev next : ℕ
      next = bit_and near left

      pub next_lt : next < 2 ^ 64
      next_lt = omega (arith, and_le_l near left, word_lt 64 (leads 64 R last) e)

      next_has : (k : ℕ) → k < 64 → has next k ≡ leads 64 R last k && has room k && not (has (seen left) k)
      next_has k l =
          has_and near left k ∙ ap (λ (b : Bool). b && has left k) (word_has 64 (leads 64 R last) e k l) ∙ ap (λ (b : Bool). leads 64 R last k && b) (g.inside k l)
          ∙ taut3 (λ a b c. a && (b && c)) (λ a b c. a && b && c) refl (leads 64 R last k) (has room k) (not (has (seen left) k))

      grows : Growing 64 R room start (bit_or (seen left) next) next
      grows = growing_turn 64 R room g.growing next next_lt next_has

      -- and is no longer left
      abbrev rest : ℕ
      rest = bit_and left ((2 ^ 64 - 1) - next)

      rest_fits : rest < 2 ^ 64
      rest_fits = omega (arith, and_le_l left ((2 ^ 64 - 1) - next), g.fits)

      rest_has : (k : ℕ) → k < 64 → has rest k ≡ has left k && not (has next k)
      rest_has k l = has_diff 64 left next k next_lt l

      pub seen_turn : seen rest ≡ bit_or (seen left) next
      seen_turn =
          ext 64 (seen rest) (bit_or (seen left) next) (seen_lt rest) (or_lt 64 (seen left) next (seen_lt left) next_lt) (λ k l.
          seen_has rest k rest_fits l ∙ ap (λ (b : Bool). has start k || has room k && not b) (rest_has k l ∙ ap (λ (b : Bool). has left k && not b) (has_and near left k))
          ∙ bits (has start k) (has room k) (has left k) (has near k) (λ q. and_l (has room k) (not (has (seen left) k)) (sym (g.inside k l) ∙ q))
          ∙ ap₂ (λ (b c : Bool). b || c) (sym (seen_has left k g.fits l)) (sym (has_and near left k)) ∙ sym (has_or (seen left) next k))
        where
          bits : (a r l y : Bool) → (l ≡ true → r ≡ true) → a || r && not (l && not (y && l)) ≡ a || r && not l || y && l
          bits true r l y p = refl
          bits false true true true p = refl
          bits false true true false p = refl
          bits false true false y p = refl
          bits false false true y p = clash (sym (p refl))
          bits false false false y p = sym (and-false y)

      pub leaving_turn : Leaving (bit_and left ((2 ^ 64 - 1) - next)) next
      leaving_turn =
          record {
            fits = rest_fits;
            inside = λ k l.
                rest_has k l ∙ ap (λ (b : Bool). b && not (has next k)) (g.inside k l)
                ∙ taut3 (λ a b c. a && not b && not c) (λ a b c. a && not (b || c)) refl (has room k) (has (seen left) k) (has next k)
                ∙ ap (λ (b : Bool). has room k && not b) (sym (ap (λ (w : ℕ). has w k) seen_turn ∙ has_or (seen left) next k));
            growing = subst (λ (w : ℕ). Growing 64 R room start w next) (sym seen_turn) grows;
          }

      pub leaving_less : 0 < next → ones (bit_and left ((2 ^ 64 - 1) - next)) < ones left
      leaving_less p =
          let low = trailing_least 64 next p next_lt in
          let k : ℕ = count_trailing_zeros 64 next in
          ones_less 64 left next k g.fits next_lt low.below (and_r (has near k) (has left k) (sym (has_and near left k) ∙ low.member)) low.member

      -- nothing comes in
      pub leaving_none : next ≡ 0 → seen left ≡ grow 64 64 R room start
      leaving_none z = sym (ap (bit_or (seen left)) z ∙ or_zero_r (seen left)) ∙ growing_end 64 R room grows hs z

    -- nothing is left
    pub leaving_all : {left last : ℕ} → Leaving left last → left ≡ 0 → seen left ≡ grow 64 64 R room start
    leaving_all {left} g z =
        growing_full 64 R room g.growing hs (λ k l e.
        seen_has left k g.fits l ∙ or_r (has start k) (and_intro e (ap (λ (w : ℕ). not (has w k)) z ∙ ap not (has_zero k))))
