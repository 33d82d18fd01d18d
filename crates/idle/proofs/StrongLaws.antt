-- Every station of a level has a mark out and a mark in, where the table is strongly connected and the level has two stations. Assumes nothing.
use mathlib.Core.Path.{◌≡◌, refl, sym, ◌∙◌, subst}
use mathlib.Core.Logic.{◌≢◌, ⊎_elim}
use mathlib.Core.Bool.{Bool, true, false}
use mathlib.Core.List.{List}
use Prim.Native.Nat.{ℕ, suc, ◌≤◌, ◌<◌, suc-le-suc}
use lib.Dec.{eqb}
use lib.ListN.{length}
use borrow.Author.Tests.{eqb-true, eqb-false}
use Rattle.bitset.specs.Sets.{has, any}
use Rattle.bitset.proofs.BoolLaws.{not_both, cases}
use Rattle.bitset.proofs.QuantLaws.{any_intro}
use Rattle.circuit.specs.Legs.{leg}
use Rattle.separator.specs.Choice.{Mark, bare, through, Walk, stay, step, Standing, turn, Outside, Labels, Walked, label_of}
use Rattle.separator.specs.Components.{components}
use Rattle.separator.specs.Level.{marking, out_may, in_may}
use Rattle.separator.specs.Representatives.{AllMarked}
use Rattle.separator.proofs.MarkLaws.{code, same_label, low_on, out_back, in_back}
use Rattle.separator.proofs.WalkLaws.{walk_end, walk_keeps, walk_back}

-- another station of S than i, and a mark on their pair
abbrev pub Partner : {A : Type 0} → ℕ → (ℕ → Bool) → Standing A → ℕ → Type 0
Partner {A} n S On i = (y : ℕ) × (m : Mark A) × (y < n) × (S y ≡ true) × (y ≢ i) × On m i y

-- ---- along any relation: a walk from i to another station of S meets a mark on the way

module _ {A : Type 0} (n : ℕ) (S : ℕ → Bool) (label : ℕ → A) (R : ℕ → ℕ → Bool) (same : Labels n S label R) (i : ℕ) where
  abbrev Found : Type 0
  Found = Partner n S (Walked n S label R) i

  -- x is in a component that i has a leg to, and a walk in it leads to x
  record Entered (x : ℕ) : Type 0 where
    enter : ℕ
    leg_in : R i enter ≡ true
    walk : Walk R (Outside n S label (label x)) enter x

  -- where the walk stands: a mark is found, or it is back at i, or in a component
  data Met (x : ℕ) : Type 0 where
    found : Found → Met x
    home : x ≡ i → Met x
    away : Entered x → Met x

  -- a step to another station of S, by a mark; or to one outside S
  met_next : (y : ℕ) → y < n → (S y ≡ true → (m : Mark A) × Walked n S label R m i y) → (S y ≡ false → Entered y) → Met y
  met_next y l mark more =
      ⊎_elim
      (λ q. home (eqb-true y i q))
      (λ q. ⊎_elim (λ h. let (m, o) = mark h in found (y, m, l, h, eqb-false y i q, o)) (λ h. away (more h)) (cases (S y)))
      (cases (eqb y i))

  met_step : (x y : ℕ) → x < n → y < n → R x y ≡ true → Met x → Met y
  met_step x y lx ly r (found f) = found f
  met_step x y lx ly r (home q) =
      let e : R i y ≡ true = subst (λ (z : ℕ). R z y ≡ true) q r in
      met_next y ly (λ h. (bare, e)) (λ h. record { enter = y; leg_in = e; walk = stay (record { below = ly; out = h; has = refl }) })
  met_step x y lx ly r (away f) =
      met_next y ly
      (λ h. (through (label x), record { enter = f.enter; leave = x; leg_in = f.leg_in; walk = f.walk; leg_out = r }))
      (λ h.
      let q : label x ≡ label y = same x y lx ly (walk_end f.walk).out h r in
      record {
        enter = f.enter;
        leg_in = f.leg_in;
        walk = step (subst (λ (c : A). Walk R (Outside n S label c) f.enter x) q f.walk) r (record { below = ly; out = h; has = refl });
      })

  met_end : (j : ℕ) → S j ≡ true → j ≢ i → Met j → Found
  met_end j h ne (found f) = f
  met_end j h ne (home q) = absurd (ne q)
  met_end j h ne (away f) = absurd (not_both h (walk_end f.walk).out)

  walk_marked : (j : ℕ) → S j ≡ true → j ≢ i → Walk R (λ x. x < n) i j → Found
  walk_marked j h ne w = met_end j h ne (walk_keeps Met met_step w (home refl))

-- ---- of a level s of the table t

-- of two stations of s, one is another one than x
another : (s a b x : ℕ) → has s a ≡ true → has s b ≡ true → b ≢ a → (j : ℕ) × (has s j ≡ true) × (j ≢ x)
another s a b x ha hb ne =
    ⊎_elim (λ q. (b, hb, λ e. ne (e ∙ sym (eqb-true a x q)))) (λ q. (a, ha, eqb-false a x q)) (cases (eqb a x))

module _ (n : ℕ) (t : List ℕ) (s : ℕ) (strong : (i j : ℕ) → i < n → j < n → Walk (leg t) (λ x. x < n) i j) where
  abbrev label : ℕ → ℕ
  label = label_of n t s

  abbrev On : Standing ℕ
  On = Walked n (has s) label (leg t)

  -- the legs, read from their other end
  abbrev back : ℕ → ℕ → Bool
  back x y = leg t y x

  turned : (m : Mark ℕ) (i y : ℕ) → Walked n (has s) label back m i y → turn On m i y
  turned bare i y e = e
  turned (through c) i y p =
      record { enter = p.leave; leave = p.enter; leg_in = p.leg_out; walk = walk_back (λ a b _ _ e. e) p.walk; leg_out = p.leg_in }

  module _ (i j : ℕ) (li : i < n) (lj : j < n) (hj : has s j ≡ true) (ne : j ≢ i) where
    pub out_partner : Partner n (has s) On i
    out_partner = walk_marked n (has s) label (leg t) (same_label n t s) i j hj ne (strong i j li lj)

    pub in_partner : Partner n (has s) (turn On) i
    in_partner =
        let (y, m, l, h, d, o) =
        walk_marked n (has s) label back (λ x y lx ly ox oy e. sym (same_label n t s y x ly lx oy ox e)) i j hj ne
        (walk_back (λ a b _ _ e. e) (strong j i lj li)) in
        (y, m, l, h, d, turned m i y o)

  -- ---- as the tests see it, where s has two stations

  module _ (below : (x : ℕ) → has s x ≡ true → x < n) (a b : ℕ) (ha : has s a ≡ true) (hb : has s b ≡ true) (ne : b ≢ a) where
    abbrev p : ℕ
    p = length (components n t s)

    marked : (On' : Standing ℕ) (may : ℕ → ℕ → ℕ → Bool) → ((m : Mark ℕ) (x y : ℕ) → On' m x y → code m ≤ p)
        → ((m : Mark ℕ) (x y : ℕ) → x < n → y < n → has s x ≡ true → has s y ≡ true → y ≢ x → On' m x y → may x y (code m) ≡ true)
        → ((x j : ℕ) → x < n → j < n → has s j ≡ true → j ≢ x → Partner n (has s) On' x) → AllMarked n s p may
    marked On' may low on partner x l h =
        let (j, hj, d) = another s a b x ha hb ne in
        let (y, m, ly, hy, e, o) = partner x j l (below j hj) hj d in
        any_intro n (λ y. any (suc p) (may x y)) y ly (any_intro (suc p) (may x y) (code m) (suc-le-suc (low m x y o)) (on m x y l ly h hy e o))

    pub out_marked : AllMarked n s p (out_may (marking n t s))
    out_marked = marked On (out_may (marking n t s)) (low_on n t s) (out_back n t s) out_partner

    pub in_marked : AllMarked n s p (in_may (marking n t s))
    in_marked = marked (turn On) (in_may (marking n t s)) (λ m x y. low_on n t s m y x) (in_back n t s) in_partner
