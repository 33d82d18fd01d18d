-- The core of a component, how it is found, and what a way into the component leads to by it. Assumes nothing.
use mathlib.Core.Path.{◌≡◌, sym, ap, ◌∙◌}
use mathlib.Core.Bool.{true}
use mathlib.Core.List.{List}
use Prim.Native.Nat.{ℕ, ◌-◌, ◌^◌, ◌<◌}
use native.Mathlib.Omega.{arith}
use lib.Bits.{bit_and, bit_or}
use lib.Pow.{pow-lt}
use Rattle.bitset.specs.Sets.{has}
use Rattle.bitset.specs.inner.Members.{Within}
use Rattle.bitset.proofs.BoolLaws.{not_both}
use Rattle.bitset.proofs.HasLaws.{has_zero, member_below}
use Rattle.bitset.proofs.SetLaws.{has_self}
use Rattle.bitset.proofs.OnesLaws.{pow_within}
use Rattle.bitset.proofs.WordLaws.{and_some}
use Rattle.circuit.specs.Legs.{leg, columns}
use Rattle.circuit.proofs.LegsLaws.{column_leg}
use Rattle.separator.specs.declared.level.Core.{Core}
use Rattle.separator.specs.Choice.{Walk}
use Rattle.separator.specs.Components.{grow}
use Rattle.separator.specs.inner.Reach.{entered}
use Rattle.separator.specs.inner.Spares.{CoreOf}
use Rattle.separator.proofs.ComponentLaws.{grown_closed, grow_keeps}
use Rattle.separator.proofs.GrowLaws.{grow_within, grow_lt, grow_beside}
use Rattle.separator.proofs.LedLaws.{entered_none}
use Rattle.separator.proofs.WalkLaws.{walk_on, walk_back, grown_from, walked_grown}

module _ (t : List ℕ) (w : ℕ) where
  -- what legs inside w lead to from a set, and from a station
  abbrev led : ℕ → ℕ
  led start = grow 64 64 (leg t) w start

  abbrev from : ℕ → ℕ
  from a = led (2 ^ a)

  -- a station that is led to leads no further
  from_on : (start a : ℕ) → has (led start) a ≡ true → Within 64 (from a) (led start)
  from_on start a e = grow_within 64 (leg t) w 64 (2 ^ a) (led start) (grown_closed 64 (leg t) w start) (pow_within 64 (led start) a e)

  -- ---- how it is found

  pub core_none : CoreOf t w (record { ahead = 0; back = 0; beyond = 0 })
  core_none =
      record {
        fits = omega arith;
        closed = λ a b la lb r d e. absurd (not_both e (has_zero a));
        leads = λ a b e f. absurd (not_both e (has_zero a));
        beyond = sym (entered_none t);
      }

  abbrev In : ℕ → Type 0
  In i = (i < 64) × (has w i ≡ true)

  -- a station x leads to `ahead`, and along the columns to `back`
  module _ (x : ℕ) (fits : w < 2 ^ 64) (hx : has w x ≡ true) where
    inside : (i : ℕ) → has w i ≡ true → In i
    inside i e = (member_below 64 w i fits e, e)

    home : (a : ℕ) → has (grow 64 64 (leg (columns 64 t)) w (2 ^ x)) a ≡ true → Walk (leg t) In a x
    home a e =
        walk_back (λ i j (li, _) (lj, _) r. sym (column_leg 64 t (omega arith) j i lj li) ∙ r)
        (grown_from 64 (leg (columns 64 t)) w In inside x (inside x hx) a e)

    out : (b : ℕ) → has (from x) b ≡ true → Walk (leg t) In x b
    out = grown_from 64 (leg t) w In inside x (inside x hx)

    pub core_from : (core : Core) → core.ahead ≡ from x → core.back ≡ grow 64 64 (leg (columns 64 t)) w (2 ^ x) → core.beyond ≡ entered t core.ahead → CoreOf t w core
    core_from core ahead back beyond =
        record {
          fits = rw ahead (grow_lt 64 (leg t) w 64 (2 ^ x) (pow-lt (inside x hx).0));
          closed = rw ahead (grown_closed 64 (leg t) w (2 ^ x));
          leads = λ a b ha hb. walked_grown 64 (leg t) w In (λ i p. p) (2 ^ a) a b (has_self a)
              (walk_on (home a (ap (λ (v : ℕ). has v a) (sym back) ∙ ha)) (out b (ap (λ (v : ℕ). has v b) (sym ahead) ∙ hb)));
          beyond = beyond;
        }

  -- ---- what it is good for: a start that meets `back` leads to `ahead`, and to what is led to beside that
  pub core_led : (core : Core) (start : ℕ) → CoreOf t w core → start < 2 ^ 64 → 0 < bit_and start core.back
      → bit_or core.ahead (grow 64 64 (leg t) (bit_and w ((2 ^ 64 - 1) - core.ahead)) (bit_and start ((2 ^ 64 - 1) - core.ahead))) ≡ led start
  core_led core start C hs p =
      let (e, l, into, home) = and_some 64 start core.back hs p in
      grow_beside 64 (leg t) w start core.ahead hs C.fits C.closed (λ b lb hb.
      from_on start e (grow_keeps 64 (leg t) w 64 start e l into) b lb (C.leads e b home hb))
