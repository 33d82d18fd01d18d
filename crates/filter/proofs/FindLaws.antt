-- The loop over the ends of the chains: what is found of the ends that are walked. Assumes nothing.
use mathlib.Core.Path.{◌≡◌, refl, sym, ap, ◌∙◌}
use mathlib.Core.Logic.{⊎_elim}
use mathlib.Core.Bool.{Bool, true, false, not, ◌&&◌, ◌||◌, or-false, or_assoc, and_assoc, and-true}
use mathlib.Core.List.{List}
use Prim.Native.Nat.{ℕ, ◌-◌, ◌^◌, ◌≤◌, ◌<◌}
use native.Mathlib.Nat.{le_refl}
use native.Mathlib.Omega.{arith}
use lib.Bits.{bit_and, bit_or, and_le_l}
use lib.Count.{count_trailing_zeros}
use lib.Dec.{eqb}
use lib.ListN.{length, set, length-set}
use lib.Seq.{get_or-set_same, get_or-set_other}
use borrow.Author.Tests.{eqb-true, eqb-false}
use Rattle.bitset.specs.Sets.{has, any, set_of}
use Rattle.bitset.specs.Upto.{row}
use Rattle.bitset.specs.inner.Members.{Parts}
use Rattle.bitset.proofs.BoolLaws.{cases}
use Rattle.bitset.proofs.HasLaws.{has_zero, has_or, member_below}
use Rattle.bitset.proofs.LeastLaws.{trailing_least, has_clear}
use Rattle.bitset.proofs.MachineLaws.{wide, trailing_first}
use Rattle.bitset.proofs.MemberLaws.{any_least, any_empty}
use Rattle.bitset.proofs.SetLaws.{word_has, has_diff}
use Rattle.filter.specs.inner.Chains.{closed}

-- the ends that are not in `rest` are walked; `ways b` has the stations that are met from b
pub record Finding (n : ℕ) (ways : ℕ → ℕ → Bool) (into ends rest : ℕ) (words : List ℕ) (r : ℕ) : Type 0 where
  pub rest_fits : rest < 2 ^ n
  pub size : length words ≡ 64
  pub closing : (b a : ℕ) → b < n → a < n → has rest b ≡ false → closed ends words b a ≡ has ends b && ways b a && not (has into a)
  pub met : (a : ℕ) → a < n → has r a || any n (λ b. has rest b && ways b a) ≡ has ends a || any n (λ b. has ends b && ways b a)

module _ (n : ℕ) (ways : ℕ → ℕ → Bool) (into ends : ℕ) (le : n ≤ 64) where
  pub finding_start : (words : List ℕ) → length words ≡ 64 → ends < 2 ^ n → Finding n ways into ends ends words ends
  finding_start words size h =
      record {
        rest_fits = h;
        size = size;
        closing = λ b a lb la e. ap (λ (x : Bool). x && has (row words b) a) e ∙ sym (ap (λ (x : Bool). x && ways b a && not (has into a)) e);
        met = λ a la. refl;
      }

  -- the least of the rest is walked
  module _ (rest : ℕ) (words : List ℕ) (r i others : ℕ) (parts : Parts rest i others) (v : Finding n ways into ends rest words r) where
    fits : rest < 2 ^ 64
    fits = wide le v.rest_fits

    pub finding_low : i < n
    finding_low = member_below n rest i v.rest_fits (ap (has rest) parts.least ∙ (trailing_least 64 rest parts.nonempty fits).member)

    same : count_trailing_zeros n rest ≡ i
    same = sym (trailing_first (le_refl n) rest parts.nonempty v.rest_fits) ∙ trailing_first le rest parts.nonempty v.rest_fits ∙ sym parts.least

    pub finding_turn : (way : ℕ) → into < 2 ^ 64 → way ≡ set_of n (ways i)
        → Finding n ways into ends others (set words i (bit_and way ((2 ^ 64 - 1) - into))) (bit_or r way)
    finding_turn way hi e =
        record {
          rest_fits = omega (arith, v.rest_fits, parts.others, and_le_l rest (rest - 1));
          size = length-set words i new ∙ v.size;
          closing = λ b a lb la q. ⊎_elim (here b a la) (λ (d : eqb b i ≡ false). other b a lb la d q) (cases (eqb b i));
          met = λ a la.
              ap (λ (x : Bool). x || left others a) (has_or r way a ∙ ap (λ (x : Bool). has r a || x) (at a la))
              ∙ or_assoc (has r a) (ways i a) (left others a)
              ∙ ap (λ (x : Bool). has r a || x)
              (ap (λ (x : ℕ). ways i a || left x a) parts.others ∙ sym (any_least n rest (λ b. ways b a) parts.nonempty v.rest_fits ∙ ap (λ (x : ℕ). ways x a || left (bit_and rest (rest - 1)) a) same))
              ∙ v.met a la;
        }
      where
        new : ℕ
        new = bit_and way ((2 ^ 64 - 1) - into)

        left : ℕ → ℕ → Bool
        left w a = any n (λ b. has w b && ways b a)

        at : (a : ℕ) → a < n → has way a ≡ ways i a
        at a la = word_has n (ways i) e a la

        here : (b a : ℕ) → a < n → eqb b i ≡ true → closed ends (set words i new) b a ≡ has ends b && ways b a && not (has into a)
        here b a la q =
            let is : b ≡ i = eqb-true b i q in
            ap (λ (x : Bool). has ends b && x)
            (ap (λ (x : ℕ). has (row (set words i new) x) a) is
            ∙ ap (λ (w : ℕ). has w a) (get_or-set_same words i new 0 (omega (arith, v.size, finding_low)))
            ∙ has_diff 64 way into a hi (omega arith)
            ∙ ap (λ (x : Bool). x && not (has into a)) (at a la ∙ ap (λ (x : ℕ). ways x a) (sym is)))
            ∙ sym (and_assoc (has ends b) (ways b a) (not (has into a)))

        other : (b a : ℕ) → b < n → a < n → eqb b i ≡ false → has others b ≡ false → closed ends (set words i new) b a ≡ has ends b && ways b a && not (has into a)
        other b a lb la d q =
            ap (λ (w : ℕ). has ends b && has w a) (get_or-set_other words i b new 0 (eqb-false b i d))
            ∙ v.closing b a lb la (sym (ap (λ (x : ℕ). has x b) parts.others ∙ has_clear 64 rest b parts.nonempty fits ∙ ap (λ (x : ℕ). has rest b && not (eqb b x)) (sym parts.least)
            ∙ ap (λ (x : Bool). has rest b && not x) d ∙ and-true (has rest b)) ∙ q)

  -- all are walked
  module _ (rest : ℕ) (words : List ℕ) (r : ℕ) (v : Finding n ways into ends rest words r) (none : rest ≡ 0) where
    pub found_closing : (b a : ℕ) → b < n → a < n → closed ends words b a ≡ has ends b && ways b a && not (has into a)
    found_closing b a lb la = v.closing b a lb la (ap (λ (w : ℕ). has w b) none ∙ has_zero b)

    pub found_met : (a : ℕ) → a < n → has r a ≡ has ends a || any n (λ b. has ends b && ways b a)
    found_met a la =
        sym (ap (λ (x : Bool). has r a || x) (ap (λ (w : ℕ). any n (λ b. has w b && ways b a)) none ∙ any_empty n (λ b. ways b a)) ∙ or-false (has r a))
        ∙ v.met a la
