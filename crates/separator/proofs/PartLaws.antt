-- Components found one after the other, as the code finds them. Assumes nothing.
use mathlib.Core.Path.{◌≡◌, refl, sym, ap, ◌∙◌, subst}
use mathlib.Core.Logic.{⊎_elim}
use mathlib.Core.Bool.{Bool, true, false, not}
use mathlib.Core.List.{List, [], ◌∷◌}
use Prim.Native.Nat.{ℕ, zero, suc, ◌+◌, ◌-◌, ◌^◌, ◌≤◌, ◌<◌, zero-le, suc-le-suc}
use native.Mathlib.Nat.{sub-zero}
use native.Mathlib.Omega.{arith}
use lib.Bits.{bit_and, and_le_l}
use lib.Count.{ones, ones-le, count_trailing_zeros}
use lib.Dec.{eqb, ltb}
use lib.ListN.{length, set, replicate}
use lib.Pow.{pow-lt}
use borrow.Author.Tests.{ne_eqb, not-true}
use Rattle.bitset.specs.Sets.{has, first, set_of, minus}
use Rattle.bitset.specs.inner.Members.{Within, Least}
use Rattle.bitset.proofs.BoolLaws.{not_both, is_false, and_intro, and_l, and_r, cond_false, cond_elim}
use Rattle.bitset.proofs.QuantLaws.{below?}
use Rattle.bitset.proofs.HasLaws.{member_below}
use Rattle.bitset.proofs.SetLaws.{set_of_lt, has_diff, has_self, diff_set_of}
use Rattle.bitset.proofs.OnesLaws.{ones_zero, ones_pos, ones_less, pow_within}
use Rattle.bitset.proofs.LeastLaws.{trailing_least}
use Rattle.bitset.proofs.MachineLaws.{wide, minus_of, trailing_first, full_without}
use Rattle.circuit.specs.Legs.{leg, neighbours}
use Rattle.separator.specs.Components.{grow, components_from, components}
use Rattle.separator.specs.inner.Reach.{Linked, Mutual, Listed}
use Rattle.separator.proofs.ComponentLaws.{Closed, grown_closed, grow_keeps}
use Rattle.separator.proofs.GrowLaws.{grow_lt, grow_rest, grow_width}
use Rattle.separator.proofs.NeighbourLaws.{linked_elim, linked_intro, linked_mutual}
use Rattle.separator.proofs.ArrayLaws.{Writing, writing_start, writing_turn, writing_end}

-- ---- one component: grown inside a room from the least station of the rest

abbrev part : ℕ → ℕ → (ℕ → ℕ → Bool) → ℕ → ℕ → ℕ
part n m R room rest = grow n n R room (2 ^ count_trailing_zeros m rest)

module _ (n m : ℕ) (R : ℕ → ℕ → Bool) (room rest : ℕ) (most : n ≤ m) (h : rest < 2 ^ n) (p : 0 < rest) where
  least : Least m rest (count_trailing_zeros m rest)
  least = trailing_least m rest p (wide most h)

  least_below : count_trailing_zeros m rest < n
  least_below = member_below n rest (count_trailing_zeros m rest) h least.member

  part_lt : part n m R room rest < 2 ^ n
  part_lt = grow_lt n R room n (2 ^ count_trailing_zeros m rest) (pow-lt least_below)

  -- the least station is the definition's first
  part_first : part n m R room rest ≡ grow n n R room (2 ^ first n (has rest))
  part_first = ap (λ (k : ℕ). grow n n R room (2 ^ k)) (sym (trailing_first most rest p h))

  -- it takes a station of the rest
  pub part_takes : ones (bit_and rest ((2 ^ m - 1) - part n m R room rest)) < ones rest
  part_takes =
      let k : ℕ = count_trailing_zeros m rest in
      ones_less m rest (part n m R room rest) k (wide most h) (wide most part_lt) least.below least.member
      (grow_keeps n R room n (2 ^ k) k least_below (has_self k))

-- ---- the list of them, as the code finds it

module _ (n : ℕ) (R : ℕ → ℕ → Bool) (room : ℕ) where
  -- the components of the stations of `rest`, f at most
  abbrev list : ℕ → ℕ → List ℕ
  list f rest = components_from f n R room rest

  parts_more : (f rest c : ℕ) → 0 < rest → c ≡ grow n n R room (2 ^ first n (has rest)) → list (suc f) rest ≡ c ∷ list f (minus n rest c)
  unfolding components_from
  parts_more f rest c p e = cond_false [] _ (ne_eqb rest 0 (λ z. omega arith)) ∙ ap (λ (x : ℕ). x ∷ list f (minus n rest x)) (sym e)

  parts_none : (f : ℕ) → list f 0 ≡ []
  unfolding components_from
  parts_none zero = refl
  parts_none (suc f) = refl

  parts_most : (f rest : ℕ) → length (list f rest) ≤ f
  unfolding components_from
  parts_most zero rest = zero-le
  parts_most (suc f) rest = cond_elim (λ (ls : List ℕ). length ls ≤ suc f) (eqb rest 0) [] _ (λ _. zero-le) (λ _. suc-le-suc (parts_most f _))

  -- `count` components are found, and `rest` has the stations of none of them: a part of the room that R does not lead out of
  pub record Listing (words : List ℕ) (count rest : ℕ) : Type 0 where
    pub below : rest < 2 ^ n
    pub inside : Within n rest room
    pub kept : Closed n R room rest
    pub written : Writing (list n room) words count (list (n - count) rest)
    pub enough : count + ones rest ≤ n

  pub listing_start : room < 2 ^ n → Listing (replicate 64 0) 0 room
  listing_start h =
      record {
        below = h;
        inside = λ k l e. e;
        kept = λ a b la lb r d e. d;
        written = subst (λ (f : ℕ). Writing (list n room) (replicate 64 0) 0 (list f room)) (sym (sub-zero n)) (writing_start (list n room));
        enough = omega (arith, ones-le n room h);
      }

  module _ {words : List ℕ} {count rest : ℕ} (g : Listing words count rest) (top : n ≤ 64) where
    -- the next component is grown in the rest; R leads both ways, so no station left leads into it
    pub listing_turn : 0 < rest → ((i j : ℕ) → R i j ≡ true → R j i ≡ true)
        → let c = grow n n R rest (2 ^ count_trailing_zeros 64 rest) in Listing (set words count c) (count + 1) (bit_and rest ((2 ^ 64 - 1) - c))
    listing_turn p swap =
        record {
          below = omega (arith, and_le_l rest ((2 ^ 64 - 1) - c), g.below);
          inside = λ k l m. g.inside k l (left k l m).0;
          kept = keeps;
          written = writing_turn g.written c (list f (bit_and rest ((2 ^ 64 - 1) - c))) (omega (arith, g.enough, less)) more;
          enough = omega (arith, g.enough, less);
        }
      where
        c : ℕ
        c = part n 64 R rest rest

        small : c < 2 ^ n
        small = part_lt n 64 R rest rest top g.below p

        less : ones (bit_and rest ((2 ^ 64 - 1) - c)) < ones rest
        less = part_takes n 64 R rest rest top g.below p

        -- what is left of the rest
        left : (k : ℕ) → k < n → has (bit_and rest ((2 ^ 64 - 1) - c)) k ≡ true → (has rest k ≡ true) × (has c k ≡ false)
        left k l m =
            let q = sym (has_diff 64 rest c k (wide top small) (omega arith)) ∙ m in
            (and_l (has rest k) (not (has c k)) q, not-true (has c k) (and_r (has rest k) (not (has c k)) q))

        keeps : Closed n R room (bit_and rest ((2 ^ 64 - 1) - c))
        keeps a b la lb r d m =
            let (in_rest, out) = left a la m in
            has_diff 64 rest c b (wide top small) (omega arith)
            ∙ and_intro (g.kept a b la lb r d in_rest)
            (ap not (is_false (has c b) (λ q. not_both (grown_closed n R rest (2 ^ count_trailing_zeros 64 rest) b a lb la (swap a b r) in_rest q) out)))

        f : ℕ
        f = n - (count + 1)

        fuel : n - count ≡ suc f
        fuel = omega (arith, g.enough, less)

        -- the rest is room enough
        grown : c ≡ grow n n R room (2 ^ first n (has rest))
        grown =
            let z : ℕ = count_trailing_zeros 64 rest in
            grow_rest n R room rest g.inside g.kept (2 ^ z) (pow-lt (least_below n 64 R rest rest top g.below p))
            (pow_within n rest z (least n 64 R rest rest top g.below p).member)
            ∙ part_first n 64 R room rest top g.below p

        more : list (n - count) rest ≡ c ∷ list f (bit_and rest ((2 ^ 64 - 1) - c))
        more =
            ap (λ (k : ℕ). list k rest) fuel
            ∙ parts_more f rest c p grown
            ∙ ap (λ (x : ℕ). c ∷ list f x) (sym (minus_of top rest c g.below (wide top small)))

    pub listing_end : rest ≡ 0 → Listed (list n room) words count
    listing_end z = writing_end g.written (omega (arith, g.enough)) (ap (list (n - count)) z ∙ parts_none (n - count))

-- ---- n stations read as m, where the two relations are the same

module _ (n m : ℕ) (R Q : ℕ → ℕ → Bool) (room : ℕ) (most : n ≤ m) (narrow : (i j : ℕ) → Q i j ≡ true → (i < n) × (j < n) × (R i j ≡ true))
    (widen : (i j : ℕ) → i < n → j < n → R i j ≡ true → Q i j ≡ true) where
  -- the stations that the next component leaves
  left : ℕ → ℕ
  left rest = bit_and rest ((2 ^ m - 1) - part n m R room rest)

  left_lt : (rest : ℕ) → rest < 2 ^ n → left rest < 2 ^ n
  unfolding left
  left_lt rest h = omega (arith, and_le_l rest ((2 ^ m - 1) - part n m R room rest))

  module _ (rest : ℕ) (h : rest < 2 ^ n) (p : 0 < rest) where
    parts_step : (f g : ℕ) → list m Q room g (left rest) ≡ list n R room f (left rest) → list m Q room (suc g) rest ≡ list n R room (suc f) rest
    unfolding left
    parts_step f g same =
        parts_more m Q room g rest c p wider
        ∙ ap (λ (x : ℕ). c ∷ list m Q room g x) (sym (minus_of (omega arith) rest c (wide most h) (wide most small)))
        ∙ ap (λ (l : List ℕ). c ∷ l) same
        ∙ sym (parts_more n R room f rest c p (part_first n m R room rest most h p) ∙ ap (λ (x : ℕ). c ∷ list n R room f x) (sym (minus_of most rest c h (wide most small))))
      where
        c : ℕ
        c = part n m R room rest

        small : c < 2 ^ n
        small = part_lt n m R room rest most h p

        wider : c ≡ grow m m Q room (2 ^ first m (has rest))
        wider =
            sym (grow_width n m R Q room (2 ^ count_trailing_zeros m rest) most (pow-lt (least_below n m R room rest most h p)) (λ i j _ _. narrow i j) widen)
            ∙ part_first m m Q room rest (omega arith) (wide most h) p

    left_fewer : ones (left rest) < ones rest
    unfolding left
    left_fewer = part_takes n m R room rest most h p

  parts_same : (f g rest : ℕ) → ones rest ≡ 0 → list m Q room g rest ≡ list n R room f rest
  parts_same f g rest e =
      let z : rest ≡ 0 = ⊎_elim (λ p. absurd (let no : ⊥ = omega (arith, ones_pos rest p) in no)) (λ q. omega arith) (below? 0 rest) in
      ap (list m Q room g) z ∙ parts_none m Q room g ∙ sym (ap (list n R room f) z ∙ parts_none n R room f)

  -- as many components as there are stations are all
  parts_width : (f g rest : ℕ) → rest < 2 ^ n → ones rest ≤ f → ones rest ≤ g → list m Q room g rest ≡ list n R room f rest
  parts_width zero g rest h few many = parts_same zero g rest (omega arith)
  parts_width (suc f) zero rest h few many = parts_same (suc f) zero rest (omega arith)
  parts_width (suc f) (suc g) rest h few many =
      ⊎_elim
      (λ p. parts_step rest h p f g (parts_width f g (left rest) (left_lt rest h) (omega (arith, left_fewer rest h p)) (omega (arith, left_fewer rest h p))))
      (λ q. parts_same (suc f) (suc g) rest (ap ones (let z : rest ≡ 0 = omega arith in z) ∙ ones_zero))
      (below? 0 rest)

-- so the words of the neighbours, read as those of 64 stations, have the components
pub components_linked : {n : ℕ} {t nbr : List ℕ} (s : ℕ) → Linked n t nbr
    → let room = set_of n (λ k. not (has s k)) in components_from 64 64 (leg nbr) room room ≡ components n t s
unfolding components
components_linked {n} {t} {nbr} s d =
    let room : ℕ = set_of n (λ k. not (has s k)) in
    let h = set_of_lt n (λ k. not (has s k)) in
    parts_width n 64 (neighbours t) (leg nbr) room d.most (linked_elim d) (linked_intro d) n 64 room h
    (ones-le n room h) (omega (arith, ones-le n room h, d.most))

-- `components_of` lists them, given the stations outside s
pub listed : {n s all count : ℕ} {t nbr parts : List ℕ} → Linked n t nbr → s < 2 ^ n → all < 2 ^ 64 → all ≡ set_of 64 (λ j. ltb j n)
    → (Mutual nbr → let out = bit_and all ((2 ^ 64 - 1) - s) in Listed (components_from 64 64 (leg nbr) out out) parts count)
    → Listed (components n t s) parts count
listed {n} {s} {all} {count} {t} {nbr} {parts} d low fits is l =
    let out = full_without d.most s all _ is (diff_set_of 64 all s fits (wide d.most low)) in
    subst (λ (c : List ℕ). Listed c parts count) (ap (λ (w : ℕ). components_from 64 64 (leg nbr) w w) out ∙ components_linked s d) (l (linked_mutual d))

-- there are at most n components
pub components_most : (n : ℕ) (t : List ℕ) (s : ℕ) → length (components n t s) ≤ n
unfolding components
components_most n t s = parts_most n (neighbours t) _ n _
