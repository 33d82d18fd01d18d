-- Parts of the search within a node budget: by cases, node by node, and one after the other. Assumes nothing.
use mathlib.Core.Path.{◌≡◌, refl, sym, ap, ◌∙◌, subst}
use mathlib.Core.Logic.{◌⊎◌, inl, inr, ⊎_elim}
use mathlib.Core.Bool.{Bool, cond, true, false}
use mathlib.Core.List.{List}
use Prim.Native.Nat.{ℕ, ◌+◌, ◌-◌, ◌≤◌, ◌<◌}
use native.Mathlib.Omega.{arith}
use native.Mathlib.Nat.{sub-zero}
use lib.Dec.{leb}
use borrow.Author.Tests.{le-leb, lt-leb, leb-true, leb-false}
use Rattle.bitset.proofs.BoolLaws.{cases, clash}
use Rattle.finder.specs.declared.outcome.Outcome.TheVariants.{Found, NoRound, UsedUp}
use Rattle.finder.specs.Search.{Search, nothing, entered, and_then}
use Rattle.finder.specs.Call.{outcome_of, nodes_of, list_after}
use Rattle.finder.specs.inner.Parts.{is_no_round, Within, within}
use Rattle.finder.proofs.ChildrenLaws.{then_found, then_next}

pub fits? : (a b : ℕ) → (a ≤ b) ⊎ (b < a)
fits? a b = ⊎_elim (λ (e : leb a b ≡ true). inl (leb-true a b e)) (λ (e : leb a b ≡ false). inr (leb-false a b e)) (cases (leb a b))

-- the budget is enough
pub within_all : (b : ℕ) (s : Search) (old : List ℕ) → s.nodes ≤ b
    → within b s old ≡ record { outcome = cond s.found Found NoRound; left = b - s.nodes; list = cond s.found s.list old }
unfolding outcome_of nodes_of list_after
within_all b s old h = rw (le-leb s.nodes b h)

-- it is not
pub within_off : (b : ℕ) (s : Search) (old : List ℕ) → b < s.nodes → within b s old ≡ record { outcome = UsedUp; left = 0; list = old }
unfolding outcome_of nodes_of list_after
within_off b s old h =
    let e : b - b ≡ 0 = omega arith in
    rw (lt-leb s.nodes b h, e)

pub within_cases : (P : Within → Type 0) (b : ℕ) (s : Search) (old : List ℕ)
    → (s.nodes ≤ b → s.found ≡ true → P (record { outcome = Found; left = b - s.nodes; list = s.list }))
    → (s.nodes ≤ b → s.found ≡ false → P (record { outcome = NoRound; left = b - s.nodes; list = old }))
    → (b < s.nodes → P (record { outcome = UsedUp; left = 0; list = old }))
    → P (within b s old)
within_cases P b s old found none off =
    ⊎_elim (λ (h : s.nodes ≤ b). subst P (sym (within_all b s old h)) (by h s.found refl)) (λ (h : b < s.nodes). subst P (sym (within_off b s old h)) (off h))
    (fits? s.nodes b)
  where
    by : s.nodes ≤ b → (x : Bool) → s.found ≡ x → P (record { outcome = cond x Found NoRound; left = b - s.nodes; list = cond x s.list old })
    by h true e = found h e
    by h false e = none h e

pub nodes_most : (b : ℕ) (s : Search) → nodes_of b s ≤ b
unfolding nodes_of
nodes_most b s =
    ⊎_elim (λ (h : s.nodes ≤ b). rw (le-leb s.nodes b h) h) (λ (h : b < s.nodes). rw (lt-leb s.nodes b h) (omega arith)) (fits? s.nodes b)

pub within_nothing : (b : ℕ) (old : List ℕ) → within b nothing old ≡ record { outcome = NoRound; left = b; list = old }
within_nothing b old = within_all b nothing old (omega arith) ∙ ap (λ (m : ℕ). record { outcome = NoRound; left = m; list = old }) (sub-zero b)

-- two parts that come out alike, with as many nodes left or missing
alike : (b c : ℕ) (r s : Search) (old : List ℕ) → r.found ≡ s.found → r.list ≡ s.list → (s.nodes ≤ c → (r.nodes ≤ b) × (b - r.nodes ≡ c - s.nodes)) → (c < s.nodes → b < r.nodes)
    → within b r old ≡ within c s old
alike b c r s old f l fits off =
    ⊎_elim
    (λ (h : s.nodes ≤ c).
    let same : Within = record { outcome = cond s.found Found NoRound; left = c - s.nodes; list = cond s.found s.list old } in
    let e : record { outcome = cond r.found Found NoRound; left = b - r.nodes; list = cond r.found r.list old } ≡ same = rw (f, l, (fits h).1) in
    within_all b r old (fits h).0 ∙ e ∙ sym (within_all c s old h))
    (λ (h : c < s.nodes). within_off b r old (off h) ∙ sym (within_off c s old h))
    (fits? s.nodes c)

-- a node that is entered takes one
pub within_enter : (b : ℕ) (s : Search) (old : List ℕ) → 0 < b → within b (entered s) old ≡ within (b - 1) s old
within_enter b s old p = alike b (b - 1) (entered s) s old refl refl (λ h. (omega (arith, h, p), omega (arith, h, p))) (λ h. omega (arith, h, p))

-- a part without a round leaves the rest of the budget, and the list as it was, to the next
pub within_next : (b : ℕ) (r s : Search) (old : List ℕ) → is_no_round (within b r old).outcome ≡ true
    → within b (and_then r s) old ≡ within (within b r old).left s (within b r old).list
within_next b r s old =
    within_cases (λ (x : Within). is_no_round x.outcome ≡ true → within b (and_then r s) old ≡ within x.left s x.list) b r old (λ _ _ e. clash (sym e))
    (λ h f _.
    ap (λ (x : Search). within b x old) (then_next r s f)
    ∙ alike b (b - r.nodes) (record { found = s.found; list = s.list; nodes = r.nodes + s.nodes }) s old refl refl (λ g. (omega (arith, g, h), omega (arith, g, h))) (λ g. omega (arith, g, h)))
    (λ _ e. clash (sym e))

-- where it has one, or the budget is used up in it, the next does not count
pub within_stop : (b : ℕ) (r s : Search) (old : List ℕ) → is_no_round (within b r old).outcome ≡ false → within b (and_then r s) old ≡ within b r old
within_stop b r s old =
    within_cases (λ (x : Within). is_no_round x.outcome ≡ false → within b (and_then r s) old ≡ x) b r old
    (λ h f _. ap (λ (x : Search). within b x old) (then_found r s f) ∙ within_all b r old h ∙ ap (λ (x : Bool). record { outcome = cond x Found NoRound; left = b - r.nodes; list = cond x r.list old }) f)
    (λ _ _ e. clash e) (λ h _. within_off b (and_then r s) old (more h))
  where
    more : b < r.nodes → b < (and_then r s).nodes
    more h =
        ⊎_elim (λ (q : r.found ≡ true). subst (λ (x : Search). b < x.nodes) (sym (then_found r s q)) h)
        (λ (q : r.found ≡ false). subst (λ (x : Search). b < x.nodes) (sym (then_next r s q)) (omega (arith, h))) (cases r.found)
