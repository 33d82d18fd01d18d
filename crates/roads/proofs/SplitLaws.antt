-- Splits, and the roads across one. Assumes nothing.
use mathlib.Core.Path.{◌≡◌, sym, ap, ◌∙◌}
use mathlib.Core.Logic.{⊎_elim}
use mathlib.Core.Bool.{true, false, not, ◌&&◌}
use Prim.Native.Nat.{ℕ, ◌-◌, ◌^◌, ◌<◌}
use lib.Pow.{ones_lt}
use borrow.Author.Tests.{lt-ltb, not-true, not-false}
use Rattle.bitset.specs.Sets.{has, any}
use Rattle.bitset.proofs.BoolLaws.{cases, is_false, not_both, and_l, and_r, and_intro}
use Rattle.bitset.proofs.HasLaws.{has_zero, ext}
use Rattle.bitset.proofs.SetLaws.{none_zero}
use Rattle.bitset.proofs.MachineLaws.{has_ones}
use Rattle.bitset.proofs.QuantLaws.{any_intro, any_elim, any_false}
use Rattle.roads.specs.Cut.{Rel, split, across}

-- ---- a split has a station in it and a station outside

pub split_in : (n X : ℕ) → split n X ≡ true → (u : ℕ) × (u < n) × (has X u ≡ true)
unfolding split
split_in n X s = any_elim n (has X) (and_l (any n (has X)) _ s)

pub split_out : (n X : ℕ) → split n X ≡ true → (u : ℕ) × (u < n) × (has X u ≡ false)
unfolding split
split_out n X s = let r = any_elim n (λ k. not (has X k)) (and_r (any n (has X)) _ s) in (r.0, r.1, not-true (has X r.0) r.2)

pub split_intro : (n X u v : ℕ) → u < n → v < n → has X u ≡ true → has X v ≡ false → split n X ≡ true
unfolding split
split_intro n X u v lu lv p q = and_intro (any_intro n (has X) u lu p) (any_intro n (λ k. not (has X k)) v lv (ap not q))

-- a word other than that of all stations leaves one out
pub some_out : (n X : ℕ) → X < 2 ^ n → (X ≡ 2 ^ n - 1 → ⊥) → (u : ℕ) × (u < n) × (has X u ≡ false)
some_out n X l ne =
    ⊎_elim (λ (t : any n (λ k. not (has X k)) ≡ true). let r = any_elim n (λ k. not (has X k)) t in (r.0, r.1, not-true (has X r.0) r.2))
    (λ (f : any n (λ k. not (has X k)) ≡ false).
    absurd (ne (ext n X (2 ^ n - 1) l (ones_lt n) (λ k h. not-false (has X k) (any_false n (λ j. not (has X j)) k f h) ∙ sym (has_ones n k ∙ lt-ltb k n h)))))
    (cases (any n (λ k. not (has X k))))

-- a word other than the empty one has a station
some_in : (n X : ℕ) → X < 2 ^ n → (X ≡ 0 → ⊥) → (u : ℕ) × (u < n) × (has X u ≡ true)
some_in n X l ne =
    ⊎_elim (λ (t : any n (has X) ≡ true). any_elim n (has X) t) (λ (f : any n (has X) ≡ false). absurd (ne (none_zero n X l (λ k h. any_false n (has X) k f h)))) (cases (any n (has X)))

pub split_zero : (n x : ℕ) → x ≡ 0 → split n x ≡ false
split_zero n x e = is_false (split n x) (λ s. let i = split_in n x s in not_both i.2 (ap (λ (w : ℕ). has w i.0) e ∙ has_zero i.0))

pub split_full : (n x : ℕ) → x ≡ 2 ^ n - 1 → split n x ≡ false
split_full n x e =
    is_false (split n x) (λ s. let o = split_out n x s in not_both (ap (λ (w : ℕ). has w o.0) e ∙ has_ones n o.0 ∙ lt-ltb o.0 n o.1) o.2)

pub split_other : (n x : ℕ) → x < 2 ^ n → (x ≡ 0 → ⊥) → (x ≡ 2 ^ n - 1 → ⊥) → split n x ≡ true
split_other n x l f g =
    let i = some_in n x l f in
    let o = some_out n x l g in
    split_intro n x i.0 o.0 i.1 o.1 i.2 o.2

-- ---- the parts of a crossing road

pub across_intro : (X : ℕ) (leg : Rel) (i j : ℕ) → has X i ≡ true → has X j ≡ false → leg i j ≡ true → across X leg i j ≡ true
unfolding across
across_intro X leg i j p q e = and_intro (and_intro p (ap not q)) e

pub across_in : (X : ℕ) (leg : Rel) (i j : ℕ) → across X leg i j ≡ true → has X i ≡ true
unfolding across
across_in X leg i j e = and_l (has X i) _ (and_l (has X i && not (has X j)) (leg i j) e)

pub across_out : (X : ℕ) (leg : Rel) (i j : ℕ) → across X leg i j ≡ true → has X j ≡ false
unfolding across
across_out X leg i j e = not-true (has X j) (and_r (has X i) _ (and_l (has X i && not (has X j)) (leg i j) e))

pub across_leg : (X : ℕ) (leg : Rel) (i j : ℕ) → across X leg i j ≡ true → leg i j ≡ true
unfolding across
across_leg X leg i j e = and_r (has X i && not (has X j)) (leg i j) e
