-- The marks of the definition, on n stations with the components of a list, are those that the code finds, on 64 stations with the components of an
-- array. Here, in EndsLaws and in MarkLaws it matters what a component's mark is. Assumes nothing.
use mathlib.Core.Path.{◌≡◌, refl, sym, ap, ap₂, ◌∙◌, subst}
use mathlib.Core.Bool.{Bool, true, false, not, ◌&&◌}
use mathlib.Core.List.{List}
use Prim.Native.Nat.{ℕ, zero, suc, ◌≤◌, ◌<◌}
use native.Mathlib.Nat.{zero-lt-suc, le_of_suc-le-suc, lt_of_lt_of_le}
use native.Mathlib.Omega.{arith}
use lib.Dec.{eqb}
use Rattle.bitset.specs.Sets.{has, set_of, meet}
use Rattle.bitset.specs.Upto.{row}
use Rattle.bitset.proofs.BoolLaws.{not_both, and_l}
use Rattle.bitset.proofs.SetLaws.{set_of_lt, set_of_elim}
use Rattle.bitset.proofs.QuantLaws.{any_low}
use Rattle.bitset.proofs.MachineLaws.{set_of_low}
use Rattle.bitset.proofs.UptoLaws.{get_d_upto, upto_cong}
use Rattle.circuit.specs.Legs.{leg, col, columns}
use Rattle.circuit.specs.State.{stray}
use Rattle.circuit.proofs.StateLaws.{stray_self}
use Rattle.separator.specs.Components.{grow, components}
use Rattle.separator.specs.Level.{led_to, joins, stands, marked, marking, marks}
use Rattle.separator.specs.inner.Reach.{Listed}
use Rattle.separator.proofs.PartLaws.{components_most}
use Rattle.separator.proofs.CleanLaws.{leg_low}
use Rattle.separator.proofs.GrowLaws.{grow_width}
use Rattle.separator.proofs.MarkingLaws.{marked_intro, marks_marked}

-- of the list, a mark sees its own component alone
stands_list : (n : ℕ) (t cs ds : List ℕ) (i j p m : ℕ) → m < suc p → ((c : ℕ) → c < p → row cs c ≡ row ds c)
    → stands n t cs i j m ≡ stands n t ds i j m
unfolding stands
stands_list n t cs ds i j p zero l f = refl
stands_list n t cs ds i j p (suc c) l f = ap (λ (w : ℕ). joins n t w i j) (f c (le_of_suc-le-suc l))

module _ (n : ℕ) (t : List ℕ) (most : n ≤ 64) (clean : stray n t ≡ false) where
  col_64 : (j : ℕ) → col n t j ≡ col 64 t j
  unfolding col
  col_64 j = sym (set_of_low most (λ i. leg t i j) (λ i l e. (leg_low n t most clean i j l e).0))

  pub columns_64 : columns n t ≡ columns 64 t
  columns_64 = upto_cong 64 _ _ (λ k l. col_64 k)

  led_64 : (w i : ℕ) → i < n → led_to n t w i ≡ led_to 64 t w i
  unfolding led_to
  led_64 w i li =
      sym (grow_width n 64 (leg t) (leg t) w (set_of n into) most (set_of_lt n into)
      (λ a b la lb e. let (na, nb) = leg_low n t most clean a b la e in (na, nb, e)) (λ a b la lb e. e))
      ∙ ap (grow 64 64 (leg t) w) (sym (set_of_low most into (λ k l e. (leg_low n t most clean i k (lt_of_lt_of_le li most) (and_l (leg t i k) (has w k) e)).1)))
    where
      into : ℕ → Bool
      into c = leg t i c && has w c

  joins_64 : (w i j : ℕ) → i < n → joins n t w i j ≡ joins 64 t w i j
  unfolding joins meet col
  joins_64 w i j li =
      ap₂ (meet n) (col_64 j) (led_64 w i li)
      ∙ sym (any_low 64 n (λ k. has (col 64 t j) k && has (led_to 64 t w i) k) most (λ k l e.
      let r = set_of_elim 64 (λ i. leg t i j) k (and_l (has (col 64 t j) k) (has (led_to 64 t w i) k) e) in
      (leg_low n t most clean k j r.0 r.1).0))

  stands_64 : (cs : List ℕ) (i j m : ℕ) → i < n → stands n t cs i j m ≡ stands 64 t cs i j m
  unfolding stands
  stands_64 cs i j zero li = refl
  stands_64 cs i j (suc c) li = joins_64 (row cs c) i j li

  module _ (s p : ℕ) (parts : List ℕ) (L : Listed (components n t s) parts p) where
    pub last_is : p ≡ (marking n t s).last
    unfolding marking
    last_is = L.many

    pub marks_is : (i j m : ℕ) → i < n → j < n → m < suc (marking n t s).last → marks (marking n t s) i j m ≡ marked 64 t s parts i j m
    unfolding marking marked
    marks_is i j m li lj lm =
        marks_marked n t s i j m li lj lm
        ∙ ap (λ (b : Bool). has s i && has s j && not (eqb i j) && b)
        (stands_64 (components n t s) i j m li
        ∙ stands_list 64 t (components n t s) parts i j p m (subst (λ (q : ℕ). m < suc q) (sym last_is) lm)
        (λ c l. sym (ap (λ (cs : List ℕ). row cs c) L.array ∙ get_d_upto 64 (row (components n t s)) 0 c (omega (arith, L.many, components_most n t s)))))

    -- a leg between two stations of s is a bare mark
    pub marks_bare : (i j : ℕ) → i < n → j < n → leg t i j ≡ true → has s i ≡ true → has s j ≡ true → marks (marking n t s) i j 0 ≡ true
    unfolding stands
    marks_bare i j li lj e hi hj =
        marks_is i j 0 li lj (zero-lt-suc (marking n t s).last)
        ∙ marked_intro 64 t s parts i j 0 hi hj (λ q. not_both e (ap (leg t i) (sym q) ∙ stray_self n t most clean i li)) e
