-- Whoever has a leg is a neighbour: what rows and columns join, neighbours join. Assumes nothing.
use mathlib.Core.Path.{◌≡◌, sym, ap, ◌∙◌}
use mathlib.Core.Logic.{⊎_elim}
use mathlib.Core.Bool.{true}
use mathlib.Core.List.{List}
use Prim.Native.Nat.{ℕ, ◌<◌}
use native.Mathlib.Omega.{arith}
use lib.ListN.{get_or-eq_default}
use Rattle.bitset.specs.Sets.{has}
use Rattle.bitset.specs.Upto.{row}
use Rattle.bitset.proofs.BoolLaws.{clash}
use Rattle.bitset.proofs.QuantLaws.{below?}
use Rattle.bitset.proofs.HasLaws.{has_zero}
use Rattle.bitset.proofs.SetLaws.{set_of_elim}
use Rattle.bitset.proofs.UptoLaws.{get_d_upto, length_upto}
use Rattle.circuit.specs.Legs.{leg, col, columns}
use Rattle.circuit.specs.inner.Tables.{Columned}
use Rattle.circuit.proofs.LegsLaws.{neighbours_leg, neighbours_swap}
use Rattle.circuit.proofs.StateLaws.{stray_legs}
use Rattle.separator.proofs.NeighbourLaws.{linked_intro}
use Rattle.idle.specs.declared.ways.Ways.{Ways}
use Rattle.idle.specs.inner.Groups.{Within}

module _ (w : Ways) where
  abbrev n : ℕ
  n = w.net.now.n

  abbrev t : List ℕ
  t = w.net.now.rows

  abbrev T : Columned n t w.net.now.cols
  T = w.net.now.columned

  leg_low : (i j : ℕ) → leg t i j ≡ true → (i < n) × (j < n)
  unfolding leg
  leg_low i j e =
      ⊎_elim
      (λ l. let a = stray_legs n t T.clean i j l e in (a.0, a.1))
      (λ g. clash (sym e ∙ ap (λ (v : ℕ). has v j) (get_or-eq_default t 0 (omega (arith, T.len))) ∙ has_zero j))
      (below? i 64)

  pub rows_within : Within t w.nbr.now
  rows_within i j e = let (li, lj) = leg_low i j e in linked_intro w.linked i j li lj (neighbours_leg t i j e)

  pub cols_within : Within w.net.now.cols w.nbr.now
  unfolding leg col
  cols_within i j e =
      ⊎_elim
      (λ l.
      let back = (set_of_elim n (λ k. leg t k i) j (sym (ap (λ (v : ℕ). has v j) (at i ∙ get_d_upto 64 (col n t) 0 i l)) ∙ e)).1 in
      let (lj, li) = leg_low j i back in
      linked_intro w.linked i j li lj (neighbours_swap t j i (neighbours_leg t j i back)))
      (λ g. clash (sym e ∙ ap (λ (v : ℕ). has v j) (at i ∙ get_or-eq_default (columns n t) 0 (omega (arith, length_upto 64 (col n t)))) ∙ has_zero j))
      (below? i 64)
    where
      at : (i : ℕ) → row w.net.now.cols i ≡ row (columns n t) i
      at i = ap (λ (ws : List ℕ). row ws i) T.columns
