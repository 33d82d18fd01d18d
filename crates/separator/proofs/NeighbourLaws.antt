-- The neighbours of stations and of sets of stations, as the code finds them: words of 64 bits, of which the n stations take the lower. Assumes nothing.
use mathlib.Core.Path.{◌≡◌, sym, ap, ◌∙◌}
use mathlib.Core.Bool.{Bool, true, ◌&&◌, ◌||◌}
use mathlib.Core.List.{List}
use Prim.Native.Nat.{ℕ, ◌^◌, ◌<◌}
use native.Mathlib.Nat.{lt_of_lt_of_le}
use lib.Bits.{bit_or, or_lt}
use Rattle.bitset.specs.Sets.{has, any, set_of}
use Rattle.bitset.proofs.BoolLaws.{iff, and_intro, and_l, and_r}
use Rattle.bitset.proofs.QuantLaws.{any_intro, any_elim}
use Rattle.bitset.proofs.HasLaws.{has_or, member_below, ext}
use Rattle.bitset.proofs.SetLaws.{set_of_lt, has_set_of, set_of_elim, eq_set_of}
use Rattle.bitset.proofs.MachineLaws.{wide}
use Rattle.bitset.specs.Upto.{row}
use Rattle.circuit.specs.Legs.{leg, col, neighbours}
use Rattle.circuit.proofs.LegsLaws.{row_in, leg_table_of, table_of_leg, neighbours_swap}
use Rattle.separator.specs.Levels.{neighbourhood}
use Rattle.separator.specs.inner.Reach.{Linked, Mutual}

-- ---- neighbours

-- `rows[i] | cols[i]`
pub neighbours_of : (n i : ℕ) (t : List ℕ) → row t i < 2 ^ n → bit_or (row t i) (col n t i) ≡ set_of n (neighbours t i)
unfolding neighbours leg col
neighbours_of n i t h =
    let c : ℕ = set_of n (λ j. has (row t j) i) in
    eq_set_of n (bit_or (row t i) c) (λ j. has (row t i) j || has (row t j) i) (or_lt n (row t i) c h (set_of_lt n (λ j. has (row t j) i)))
    (λ j l. has_or (row t i) c j ∙ ap (λ (b : Bool). has (row t i) j || b) (has_set_of n (λ j. has (row t j) i) j l))

linked_word : {n : ℕ} {t nbr : List ℕ} → Linked n t nbr → (i : ℕ) → i < n → row nbr i ≡ set_of n (neighbours t i)
linked_word {n} {t} {nbr} d i l = ap (λ (x : List ℕ). row x i) d.table ∙ row_in n (neighbours t) i d.most l

-- word i has j just where the two are neighbours
pub linked_elim : {n : ℕ} {t nbr : List ℕ} → Linked n t nbr → (i j : ℕ) → leg nbr i j ≡ true → (i < n) × (j < n) × (neighbours t i j ≡ true)
linked_elim {n} {t} d i j e = table_of_leg n (neighbours t) i j (ap (λ (x : List ℕ). leg x i j) (sym d.table) ∙ e)

pub linked_intro : {n : ℕ} {t nbr : List ℕ} → Linked n t nbr → (i j : ℕ) → i < n → j < n → neighbours t i j ≡ true → leg nbr i j ≡ true
linked_intro {n} {t} d i j li lj e = ap (λ (x : List ℕ). leg x i j) d.table ∙ leg_table_of n (neighbours t) i j d.most li lj ∙ e

pub linked_mutual : {n : ℕ} {t nbr : List ℕ} → Linked n t nbr → Mutual nbr
linked_mutual {t = t} d i j e = let (li, lj, q) = linked_elim d i j e in linked_intro d j i lj li (neighbours_swap t i j q)

-- some station of w leads to j by the relation R
abbrev pub leads : ℕ → (ℕ → ℕ → Bool) → ℕ → ℕ → Bool
leads n R w j = any n (λ i. has w i && R i j)

-- some word of a member of w has k
abbrev pub hit : List ℕ → ℕ → ℕ → Bool
hit nbr w k = any 64 (λ i. has w i && has (row nbr i) k)

-- the union of the words of the members of w
pub neighbourhood_of : {n : ℕ} {t nbr : List ℕ} (w out : ℕ) → Linked n t nbr → w < 2 ^ n → out < 2 ^ 64
    → ((k : ℕ) → k < 64 → has out k ≡ hit nbr w k) → out ≡ neighbourhood n t w
unfolding neighbourhood
neighbourhood_of {n} {t} {nbr} w out d hw ho bits =
    ext 64 out (set_of n joined) ho (wide d.most (set_of_lt n joined))
    (λ k l. bits k l ∙ iff (hit nbr w k) (has (set_of n joined) k) (there k) (back k))
  where
    joined : ℕ → Bool
    joined = leads n (neighbours t) w

    there : (k : ℕ) → hit nbr w k ≡ true → has (set_of n joined) k ≡ true
    there k e =
        let (i, li, ei) = any_elim 64 (λ i. has w i && has (row nbr i) k) e in
        let hi = and_l (has w i) (has (row nbr i) k) ei in
        let low = member_below n w i hw hi in
        let m = set_of_elim n (neighbours t i) k (ap (λ (x : ℕ). has x k) (sym (linked_word d i low)) ∙ and_r (has w i) (has (row nbr i) k) ei) in
        has_set_of n joined k m.0 ∙ any_intro n (λ j. has w j && neighbours t j k) i low (and_intro hi m.1)

    back : (k : ℕ) → has (set_of n joined) k ≡ true → hit nbr w k ≡ true
    back k e =
        let m = set_of_elim n joined k e in
        let (i, li, ei) = any_elim n (λ i. has w i && neighbours t i k) m.1 in
        any_intro 64 (λ j. has w j && has (row nbr j) k) i (lt_of_lt_of_le li d.most)
        (and_intro (and_l (has w i) (neighbours t i k) ei)
        (ap (λ (x : ℕ). has x k) (linked_word d i li) ∙ has_set_of n (neighbours t i) k m.0 ∙ and_r (has w i) (neighbours t i k) ei))

pub neighbourhood_lt : (n : ℕ) (t : List ℕ) (w : ℕ) → neighbourhood n t w < 2 ^ n
unfolding neighbourhood
neighbourhood_lt n t w = set_of_lt n (leads n (neighbours t) w)
