-- What a mark on a pair says, and that a marking, read back, has the marks. Assumes nothing.
use mathlib.Core.Path.{◌≡◌, sym, ap, ◌∙◌}
use mathlib.Core.Logic.{◌≢◌}
use mathlib.Core.Bool.{true, not, ◌&&◌}
use mathlib.Core.List.{List, []}
use Prim.Native.Nat.{ℕ, suc, ◌<◌}
use lib.Dec.{eqb}
use lib.ListN.{length}
use borrow.Author.Tests.{eqb-false, ne_eqb, not-true}
use Rattle.bitset.specs.Sets.{has, set_of}
use Rattle.bitset.specs.Upto.{upto, row}
use Rattle.bitset.proofs.BoolLaws.{and_intro, and_l, and_r}
use Rattle.bitset.proofs.SetLaws.{has_set_of, set_of_elim}
use Rattle.bitset.proofs.UptoLaws.{get_d_upto}
use Rattle.separator.specs.Components.{components}
use Rattle.separator.specs.Level.{stands, marked, marking, marks}

module _ (n : ℕ) (t : List ℕ) (s : ℕ) (cs : List ℕ) (i j m : ℕ) where
  pub marked_elim : marked n t s cs i j m ≡ true → (has s i ≡ true) × (has s j ≡ true) × (i ≢ j) × (stands n t cs i j m ≡ true)
  unfolding marked
  marked_elim e =
      let pair = and_l (has s i && has s j && not (eqb i j)) (stands n t cs i j m) e in
      let both = and_l (has s i && has s j) (not (eqb i j)) pair in (
        and_l (has s i) (has s j) both,
        and_r (has s i) (has s j) both,
        eqb-false i j (not-true (eqb i j) (and_r (has s i && has s j) (not (eqb i j)) pair)),
        and_r (has s i && has s j && not (eqb i j)) (stands n t cs i j m) e,
      )

  pub marked_intro : has s i ≡ true → has s j ≡ true → i ≢ j → stands n t cs i j m ≡ true → marked n t s cs i j m ≡ true
  unfolding marked
  marked_intro hi hj ne on = and_intro (and_intro (and_intro hi hj) (ap not (ne_eqb i j ne))) on

  pub marked_pair : marked n t s cs i j m ≡ true → (has s i ≡ true) × (has s j ≡ true)
  marked_pair e = let f = marked_elim e in (f.0, f.1)

module _ (n : ℕ) (t : List ℕ) (s : ℕ) where
  abbrev cs : List ℕ
  cs = components n t s

  module _ (i j m : ℕ) (li : i < n) (lj : j < n) where
    marks_set : marks (marking n t s) i j m ≡ has (set_of (suc (length cs)) (marked n t s cs i j)) m
    unfolding marks marking
    marks_set =
        ap (λ (r : List ℕ). has (row r j) m) (get_d_upto n (λ i. upto n (λ j. set_of (suc (length cs)) (marked n t s cs i j))) [] i li)
        ∙ ap (λ (w : ℕ). has w m) (get_d_upto n (λ j. set_of (suc (length cs)) (marked n t s cs i j)) 0 j lj)

    pub marks_marked : m < suc (length cs) → marks (marking n t s) i j m ≡ marked n t s cs i j m
    marks_marked l = marks_set ∙ has_set_of (suc (length cs)) (marked n t s cs i j) m l

    -- there are no other marks
    pub marks_elim : marks (marking n t s) i j m ≡ true → (m < suc (length cs)) × (marked n t s cs i j m ≡ true)
    marks_elim e = set_of_elim (suc (length cs)) (marked n t s cs i j) m (sym marks_set ∙ e)
