-- The inner levels as a pass takes them out of the array, one after the other. Assumes nothing.
use mathlib.Core.Path.{◌≡◌, refl, sym, ap, ◌∙◌, subst}
use mathlib.Core.List.{List, [], ◌∷◌}
use Prim.Native.Nat.{ℕ, zero, suc, ◌+◌, ◌-◌, ◌^◌, ◌≤◌, ◌<◌}
use native.Mathlib.Nat.{not-suc-le-zero, le_of_suc-le-suc}
use native.Mathlib.Numerals.{add-one}
use native.Mathlib.Omega.{arith}
use lib.Dec.{eqb}
use lib.ListN.{length, take, drop_of_length-le, length-take}
use lib.Pow.{pow_pos, pow-lt}
use lib.Seq.{slice, slice-cons, get_or-take}
use Rattle.bitset.specs.Upto.{row}
use Rattle.bitset.specs.Sets.{minus, join}
use Rattle.bitset.proofs.BoolLaws.{cond_elim}
use Rattle.bitset.proofs.SetLaws.{set_of_lt}
use Rattle.separator.specs.Levels.{neighbourhood, levels_from, levels, front, inner}

-- ---- each level is a set of the n stations

from_below : (f n : ℕ) (t : List ℕ) (seen last c : ℕ) → last < 2 ^ n → row (levels_from f n t seen last) c < 2 ^ n
unfolding levels_from minus
from_below zero n t seen last c h = pow_pos n
from_below (suc f) n t seen last c h =
    cond_elim (λ (ls : List ℕ). row ls c < 2 ^ n) (eqb last 0) [] (last ∷ more) (λ _. pow_pos n)
    (λ _. at c (λ d. from_below f n t (join n seen next) next d (set_of_lt n _)))
  where
    next : ℕ
    next = minus n (neighbourhood n t last) seen

    more : List ℕ
    more = levels_from f n t (join n seen next) next

    at : (d : ℕ) → ((e : ℕ) → row more e < 2 ^ n) → row (last ∷ more) d < 2 ^ n
    at zero rest = h
    at (suc d) rest = rest d

-- so each word of the array is
pub level_below : (n : ℕ) (t : List ℕ) (seed count : ℕ) (level : List ℕ) → take count level ≡ levels n t seed → seed < n
    → (k : ℕ) → k < count → row level k < 2 ^ n
unfolding levels
level_below n t seed count level e h k l =
    subst (λ (w : ℕ). w < 2 ^ n) (ap (λ (ls : List ℕ). row ls k) (sym e) ∙ get_or-take count level k 0 l)
    (from_below n n t (2 ^ seed) (2 ^ seed) k (pow-lt h))

-- ---- levels 1 to m - 1, from level k on

-- what is left of the inner levels at level k, of `count` levels in an array
pub inner_from : ℕ → ℕ → List ℕ → List ℕ
inner_from k count level = slice k (count - 1) level

front_take : (m : ℕ) (l : List ℕ) → m < length l → front (take (suc m) l) ≡ take m l
unfolding front
front_take m [] h = absurd (not-suc-le-zero h)
front_take zero (x ∷ xs) h = refl
front_take (suc m) (x ∷ []) h = absurd (not-suc-le-zero (le_of_suc-le-suc h))
front_take (suc m) (x ∷ y ∷ ys) h = ap (λ (l : List ℕ). x ∷ l) (front_take m (y ∷ ys) (le_of_suc-le-suc h))

-- all of them
pub inner_start : (count : ℕ) (level : List ℕ) → count ≤ length level → inner (take count level) ≡ inner_from 1 count level
unfolding inner front inner_from
inner_start zero level h = refl
inner_start (suc count) [] h = absurd (not-suc-le-zero h)
inner_start (suc zero) (x ∷ xs) h = refl
inner_start (suc (suc m)) (x ∷ xs) h =
    let e : suc m ≡ suc (suc m) - 1 = omega arith in
    front_take m xs (le_of_suc-le-suc h) ∙ ap (λ (j : ℕ). slice 1 j (x ∷ xs)) e

-- level k, and those after it
pub inner_step : (k count : ℕ) (level : List ℕ) → k + 1 < count → count ≤ length level
    → inner_from k count level ≡ row level k ∷ inner_from (k + 1) count level
unfolding inner_from
inner_step k count level l h =
    slice-cons k (count - 1) level 0 (omega arith) (omega arith) ∙ ap (λ (j : ℕ). row level k ∷ slice j (count - 1) level) (sym (add-one k))

-- none
pub inner_end : (k count : ℕ) (level : List ℕ) → count ≤ k + 1 → inner_from k count level ≡ []
unfolding inner_from
inner_end k count level h = drop_of_length-le (take (count - 1) level) {i = k} (omega (arith, length-take (count - 1) level))
