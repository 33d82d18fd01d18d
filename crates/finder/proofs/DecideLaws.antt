-- A table with one row left to one leg: its legs and its rounds. Assumes nothing.
use mathlib.Core.Path.{◌≡◌, sym, ap, ap₂, ◌∙◌}
use mathlib.Core.Logic.{⊎_elim}
use mathlib.Core.Bool.{true, false}
use mathlib.Core.List.{List}
use Prim.Native.Nat.{ℕ, ◌^◌, ◌<◌}
use lib.Dec.{eqb}
use lib.ListN.{get_or, set, length, length-set, get_or-eq_default}
use lib.Seq.{get_or-set_same, get_or-set_other, ext_get_or}
use borrow.Author.Tests.{eqb-true, eqb-false, eq-eqb}
use Rattle.bitset.specs.Sets.{has}
use Rattle.bitset.specs.Upto.{row}
use Rattle.bitset.proofs.BoolLaws.{cases, not_both}
use Rattle.bitset.proofs.HasLaws.{has_zero, has_pow}
use Rattle.bitset.proofs.QuantLaws.{below?}
use Rattle.circuit.specs.Legs.{leg, Subtable}
use Rattle.circuit.specs.Round.{RoundOf}
use Rattle.circuit.proofs.Turn.{round_on}

module _ (t : List ℕ) (d j : ℕ) (h : leg t d j ≡ true) where
  in_list : d < length t
  unfolding leg
  in_list =
      ⊎_elim (λ (l : d < length t). l) (λ g. absurd (not_both h (ap (λ (x : ℕ). has x j) (get_or-eq_default t 0 g) ∙ has_zero j))) (below? d (length t))

  leg_here : (k : ℕ) → leg (set t d (2 ^ j)) d k ≡ eqb k j
  unfolding leg
  leg_here k = ap (λ (x : ℕ). has x k) (get_or-set_same t d (2 ^ j) 0 in_list) ∙ has_pow j k

  leg_there : (i k : ℕ) → (i ≡ d → ⊥) → leg (set t d (2 ^ j)) i k ≡ leg t i k
  unfolding leg
  leg_there i k ne = ap (λ (x : ℕ). has x k) (get_or-set_other t d i (2 ^ j) 0 ne)

  pub set_only : (k : ℕ) → leg (set t d (2 ^ j)) d k ≡ true → k ≡ j
  set_only k e = eqb-true k j (sym (leg_here k) ∙ e)

  pub set_sub : Subtable (set t d (2 ^ j)) t
  set_sub i k e =
      ⊎_elim
      (λ (q : eqb i d ≡ true).
      let z = eqb-true i d q in
      ap₂ (leg t) z (set_only k (ap (λ (x : ℕ). leg (set t d (2 ^ j)) x k) (sym z) ∙ e)) ∙ h)
      (λ (q : eqb i d ≡ false). sym (leg_there i k (eqb-false i d q)) ∙ e) (cases (eqb i d))

  -- a round that drives the leg is kept
  pub set_round : (n : ℕ) (x : ℕ → ℕ) → RoundOf n t x → x d ≡ j → RoundOf n (set t d (2 ^ j)) x
  set_round n x r e =
      round_on r (λ i l.
      ⊎_elim (λ (q : eqb i d ≡ true). let z = eqb-true i d q in ap (λ (k : ℕ). leg (set t d (2 ^ j)) k (x i)) z ∙ leg_here (x i) ∙ eq-eqb (x i) j (ap x z ∙ e))
      (λ (q : eqb i d ≡ false). leg_there i (x i) (eqb-false i d q) ∙ r.drives i l) (cases (eqb i d)))

-- a row written over with itself
pub set_same : (t : List ℕ) (d x : ℕ) → d < length t → row t d ≡ x → set t d x ≡ t
set_same t d x l e =
    ext_get_or 0 (set t d x) t (length-set t d x) (λ k m.
    ⊎_elim (λ (q : eqb k d ≡ true). let z = eqb-true k d q in ap (λ (i : ℕ). get_or (set t d x) i 0) z ∙ get_or-set_same t d x 0 l ∙ sym e ∙ ap (λ (i : ℕ). get_or t i 0) (sym z))
    (λ (q : eqb k d ≡ false). get_or-set_other t d k x 0 (eqb-false k d q)) (cases (eqb k d)))

-- a round of a part of the table is one of the table
pub sub_round : (n : ℕ) (t u : List ℕ) (x : ℕ → ℕ) → Subtable t u → RoundOf n t x → RoundOf n u x
sub_round n t u x sub r = round_on r (λ i l. sub i (x i) (r.drives i l))
