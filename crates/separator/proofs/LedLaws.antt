-- The stations that have a leg from a set, and these of all that a set leads to, as the code finds both in one walk. Words of 64 bits. Assumes nothing.
use mathlib.Core.Path.{◌≡◌, refl, sym, ap, ap₂, ◌∙◌}
use mathlib.Core.Bool.{Bool, true, ◌&&◌, ◌||◌}
use mathlib.Core.List.{List}
use Prim.Native.Nat.{ℕ, ◌+◌, ◌-◌, ◌^◌, ◌<◌}
use native.Mathlib.Omega.{arith}
use lib.Bits.{bit_and, bit_or, or_lt, or_zero_l, or_zero_r}
use lib.Count.{ones}
use Rattle.bitset.specs.Sets.{has, set_of}
use Rattle.bitset.proofs.BoolLaws.{taut3, and_l, and_r}
use Rattle.bitset.proofs.QuantLaws.{any_elim, any_ext, any_none, any_or}
use Rattle.bitset.proofs.HasLaws.{has_zero, has_and, has_or}
use Rattle.bitset.proofs.SetLaws.{set_of_lt, has_set_of, set_of_elim, set_of_ext, eq_set_of, set_of_none}
use Rattle.bitset.proofs.OnesLaws.{ones_pos, ones_within}
use Rattle.circuit.specs.Legs.{leg}
use Rattle.separator.specs.inner.Reach.{entered, LedFrom}
use Rattle.separator.proofs.NeighbourLaws.{leads}
use Rattle.separator.proofs.GrowLaws.{growing_end}
use Rattle.separator.proofs.RoomLaws.{seen, Leaving, leaving_start, leaving_turn, seen_start, next_lt, seen_turn}

module _ (t : List ℕ) where
  pub entered_none : entered t 0 ≡ 0
  unfolding entered
  entered_none = set_of_ext 64 _ _ (λ j l. any_none 64 _ (λ d m. ap (λ (b : Bool). b && leg t d j) (has_zero d))) ∙ set_of_none 64

  pub entered_elim : (w j : ℕ) → has (entered t w) j ≡ true → (d : ℕ) × (d < 64) × (has w d ≡ true) × (leg t d j ≡ true)
  unfolding entered
  entered_elim w j e =
      let (d, l, f) = any_elim 64 (λ d. has w d && leg t d j) (set_of_elim 64 (leads 64 (leg t) w) j e).1 in
      (d, l, and_l (has w d) (leg t d j) f, and_r (has w d) (leg t d j) f)

  -- from one of two sets
  pub entered_both : (a b : ℕ) → bit_or (entered t a) (entered t b) ≡ entered t (bit_or a b)
  unfolding entered
  entered_both a b =
      eq_set_of 64 (bit_or (entered t a) (entered t b)) _ (or_lt 64 (entered t a) (entered t b) (set_of_lt 64 _) (set_of_lt 64 _)) (λ j l.
      has_or (entered t a) (entered t b) j
      ∙ ap₂ (λ (x y : Bool). x || y) (has_set_of 64 (leads 64 (leg t) a) j l) (has_set_of 64 (leads 64 (leg t) b) j l)
      ∙ sym (any_or 64 (λ d. has a d && leg t d j) (λ d. has b d && leg t d j))
      ∙ any_ext 64 _ _ (λ d ld.
      taut3 (λ x y z. x && z || y && z) (λ x y z. (x || y) && z) refl (has a d) (has b d) (leg t d j) ∙ ap (λ (x : Bool). x && leg t d j) (sym (has_or a b d))))

-- ---- the walk: `beyond` has the members of the words that were read, those of all stations but the last ones
pub record Leading (t : List ℕ) (room start left last beyond : ℕ) : Type 0 where
  pub leaving : Leaving (leg t) room start left last
  pub read : bit_or beyond (entered t last) ≡ entered t (seen (leg t) room start left)

module _ (t : List ℕ) (room start : ℕ) (hr : room < 2 ^ 64) (hs : start < 2 ^ 64) where
  pub leading_start : Leading t room start (bit_and room ((2 ^ 64 - 1) - start)) start 0
  leading_start =
      record {
        leaving = leaving_start (leg t) room start hr hs;
        read = or_zero_l (entered t start) ∙ ap (entered t) (sym (seen_start (leg t) room start hr hs));
      }

  module _ {left last near beyond : ℕ} (g : Leading t room start left last beyond) (e : near ≡ set_of 64 (leads 64 (leg t) last)) where
    pub leading_turn : Leading t room start (bit_and left ((2 ^ 64 - 1) - bit_and near left)) (bit_and near left) (bit_or beyond near)
    unfolding entered
    leading_turn =
        record {
          leaving = leaving_turn (leg t) room start hr hs g.leaving e;
          read = ap (λ (v : ℕ). bit_or v (entered t (bit_and near left))) (ap (bit_or beyond) e ∙ g.read)
              ∙ entered_both t (seen (leg t) room start left) (bit_and near left) ∙ ap (entered t) (sym (seen_turn (leg t) room start hr hs g.leaving e));
        }

    -- what comes in is no longer left, and the last ones are done
    pub leading_less : 0 < last → ones (bit_and left ((2 ^ 64 - 1) - bit_and near left)) + ones (bit_and near left) < ones left + ones last
    leading_less p =
        let less = ones_within 64 (bit_and near left) left (next_lt (leg t) room start hr hs g.leaving e) g.leaving.fits (λ k l q. and_r (has near k) (has left k) (sym (has_and near left k) ∙ q)) in
        omega (arith, less, ones_pos last p)

  pub leading_end : {left last beyond : ℕ} → Leading t room start left last beyond → last ≡ 0 → LedFrom t room start (record { all = seen (leg t) room start left; beyond = beyond })
  leading_end {left} {last} {beyond} g z =
      record {
        all = growing_end 64 (leg t) room g.leaving.growing hs z;
        beyond = sym (or_zero_r beyond) ∙ ap (bit_or beyond) (sym (ap (entered t) z ∙ entered_none t)) ∙ g.read;
      }
