-- A table of n stations without stray legs, read as one of 64: nothing is found beyond n. Assumes nothing.
use mathlib.Core.Path.{◌≡◌, sym, ap, ◌∙◌, subst}
use mathlib.Core.Logic.{⊎_elim}
use mathlib.Core.Bool.{true, false}
use mathlib.Core.List.{List}
use Prim.Native.Nat.{ℕ, ◌^◌, ◌≤◌, ◌<◌}
use native.Mathlib.Nat.{lt_of_lt_of_le}
use lib.Pow.{pow_mono, pow_pos}
use Rattle.bitset.specs.Sets.{has}
use Rattle.bitset.proofs.BoolLaws.{clash}
use Rattle.bitset.proofs.HasLaws.{has_zero, member_below}
use Rattle.bitset.proofs.QuantLaws.{below?}
use Rattle.bitset.specs.Upto.{row}
use Rattle.circuit.specs.Legs.{leg}
use Rattle.circuit.specs.State.{stray}
use Rattle.circuit.proofs.StateLaws.{stray_row_lem, stray_beyond}

module _ (n : ℕ) (t : List ℕ) (most : n ≤ 64) (clean : stray n t ≡ false) where
  pub row_fits : (i : ℕ) → i < 64 → row t i < 2 ^ 64
  row_fits i l =
      ⊎_elim
      (λ h. lt_of_lt_of_le (stray_row_lem n t most clean i h) (pow_mono most))
      (λ h. subst (λ (w : ℕ). w < 2 ^ 64) (sym (stray_beyond n t clean i h l)) (pow_pos 64))
      (below? i n)

  -- a leg joins stations below n
  pub leg_low : (i j : ℕ) → i < 64 → leg t i j ≡ true → (i < n) × (j < n)
  unfolding leg
  leg_low i j l e =
      ⊎_elim
      (λ h. (h, member_below n (row t i) j (stray_row_lem n t most clean i h) e))
      (λ h. clash (sym e ∙ ap (λ (w : ℕ). has w j) (stray_beyond n t clean i h l) ∙ has_zero j))
      (below? i n)
