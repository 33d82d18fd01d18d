-- The call: its cases, and W-210's claims of it. Assumes nothing.
use mathlib.Core.Path.{◌≡◌, refl, sym, ap, ◌∙◌, subst}
use mathlib.Core.Logic.{⊎_elim}
use mathlib.Core.Bool.{cond, true, false}
use mathlib.Core.List.{List}
use Prim.Native.Nat.{ℕ, ◌-◌, ◌≤◌, ◌<◌, zero-le}
use native.Mathlib.Omega.{arith}
use lib.Dec.{eqb}
use lib.ListN.{length}
use borrow.Author.Tests.{eq-eqb, ne_eqb, eqb-true, eqb-false}
use Rattle.bitset.proofs.BoolLaws.{cases}
use Rattle.circuit.specs.declared.state.Work.{Work}
use Rattle.circuit.specs.declared.card.Answer.{Answer}
use Rattle.circuit.specs.declared.card.Answer.TheVariants.{Taken, BadWork, WrongLength}
use Rattle.circuit.specs.State.{bad, rows_of, Good}
use Rattle.circuit.specs.Check.{choice_of}
use Rattle.circuit.proofs.StateLaws.{good}
use Rattle.circuit.proofs.CheckLaws.{round_list}
use Rattle.finder.specs.declared.outcome.Outcome.{Outcome}
use Rattle.finder.specs.declared.outcome.Outcome.TheVariants.{Found, NoRound, UsedUp}
use Rattle.finder.specs.declared.outcome.Sought.{Sought}
use Rattle.finder.specs.Search.{node, search_from, whole}
use Rattle.finder.specs.Call.{outcome_code, outcome_of, nodes_of, list_after, refused, first_call, first_list}
use Rattle.finder.specs.Claims.{enough, Finds, NodeBudgets}
use Rattle.finder.specs.inner.Parts.{Within, within}
use Rattle.finder.proofs.NodeLaws.{root}
use Rattle.finder.proofs.SearchLaws.{Tells, some_node, search_tells, search_deep, before}
use Rattle.finder.proofs.WithinLaws.{fits?, within_all, within_off, within_cases, nodes_most}

-- ---- the call by cases: what it hands back, with the list that it leaves

pub record Answered : Type 0 where
  pub sought : Sought
  pub list : List ℕ

abbrev pub answered : Work → ℕ → List ℕ → Answered
answered w b old = record { sought = first_call w b old; list = first_list w b old }

abbrev pub taken : ℕ → Within → Answered
taken b p = record { sought = record { answer = Taken; outcome = p.outcome; nodes = b - p.left }; list = p.list }

pub call_bad : (w : Work) (b : ℕ) (old : List ℕ) → bad w ≡ true → answered w b old ≡ record { sought = refused BadWork; list = old }
unfolding first_call first_list
call_bad w b old o = rw o

pub call_long : (w : Work) (b : ℕ) (old : List ℕ) → bad w ≡ false → (length old ≡ w.n → ⊥) → answered w b old ≡ record { sought = refused WrongLength; list = old }
unfolding first_call first_list
call_long w b old o l = rw (o, ne_eqb (length old) w.n l)

pub call_taken : (w : Work) (b : ℕ) (old : List ℕ) → bad w ≡ false → length old ≡ w.n → answered w b old ≡ taken b (within b (whole w) old)
unfolding first_call first_list
call_taken w b old o l =
    let e : nodes_of b (whole w) ≡ b - (b - nodes_of b (whole w)) = omega (arith, nodes_most b (whole w)) in
    let t : answered w b old ≡ record { sought = record { answer = Taken; outcome = outcome_of b (whole w); nodes = nodes_of b (whole w) }; list = list_after b (whole w) old } =
    rw (o, eq-eqb (length old) w.n l) in
    t ∙ ap (λ (m : ℕ). record { sought = record { answer = Taken; outcome = outcome_of b (whole w); nodes = m }; list = list_after b (whole w) old }) e

-- ---- the outcomes differ

codes : {A : Type 0} {o p : Outcome} → o ≡ p → (outcome_code o ≡ outcome_code p → ⊥) → A
codes e f = absurd (f (ap outcome_code e))

found_none : {A : Type 0} → Found ≡ NoRound → A
found_none e = codes e (λ q. omega (arith, q))

found_used : {A : Type 0} → Found ≡ UsedUp → A
found_used e = codes e (λ q. omega (arith, q))

none_used : {A : Type 0} → NoRound ≡ UsedUp → A
none_used e = codes e (λ q. omega (arith, q))

-- ---- of a call that is taken

module _ (w : Work) (g : Good w) (long : length (rows_of w) ≡ 64) where
  whole_tells : Tells w.n (rows_of w) (whole w)
  unfolding whole
  whole_tells = search_tells w.n (node w (rows_of w)) (root w g long)

  whole_some : 0 < enough w
  unfolding whole
  whole_some = some_node (node w (rows_of w)) w.n

  whole_deep : (whole w).found ≡ true → w.n < enough w
  unfolding whole
  whole_deep = search_deep w.n (node w (rows_of w))

  module _ (b : ℕ) where
    -- what is claimed of an answer
    abbrev Claimed : Answered → Type 0
    Claimed a = Finds w b a.sought a.list

    hit : enough w ≤ b → (whole w).found ≡ true → Claimed (taken b (record { outcome = Found; left = b - enough w; list = (whole w).list }))
    hit h f =
        let L = whole_tells.lists f in
        record {
          found = λ _. record { round = L.round; first = λ y _ r. before w.n (choice_of (whole w).list) y (whole_tells.first f y r) };
          passes = λ _. round_list w (whole w).list g L;
          found_back = λ _ _ _. refl;
          none = λ e. found_none e;
          none_back = λ e _. absurd (e (choice_of (whole w).list) tt L.round);
          used = λ e. found_used e;
          used_back = λ e. absurd (let z : ⊥ = omega (arith, e, h) in z);
          count = λ _. omega (arith, h);
          some = whole_some;
          deep = λ _. whole_deep f;
        }

    miss : (old : List ℕ) → enough w ≤ b → (whole w).found ≡ false → Claimed (taken b (record { outcome = NoRound; left = b - enough w; list = old }))
    miss old h f =
        record {
          found = λ e. found_none (sym e);
          passes = λ e. found_none (sym e);
          found_back = λ h r _. absurd (whole_tells.none f h r);
          none = λ _. (λ y _ r. whole_tells.none f y r, h);
          none_back = λ _ _. refl;
          used = λ e. none_used e;
          used_back = λ e. absurd (let z : ⊥ = omega (arith, e, h) in z);
          count = λ _. omega (arith, h);
          some = whole_some;
          deep = λ e. found_none (sym e);
        }

    off : (old : List ℕ) → b < enough w → Claimed (taken b (record { outcome = UsedUp; left = 0; list = old }))
    off old h =
        record {
          found = λ e. found_used (sym e);
          passes = λ e. found_used (sym e);
          found_back = λ _ _ e. absurd (let z : ⊥ = omega (arith, e, h) in z);
          none = λ e. none_used (sym e);
          none_back = λ _ e. absurd (let z : ⊥ = omega (arith, e, h) in z);
          used = λ _. (h, omega arith);
          used_back = λ _. refl;
          count = λ e. absurd (let z : ⊥ = omega (arith, e, h) in z);
          some = whole_some;
          deep = λ e. found_used (sym e);
        }

pub finds : (w : Work) (b : ℕ) (old : List ℕ) → bad w ≡ false → length (rows_of w) ≡ 64 → length old ≡ w.n → Finds w b (first_call w b old) (first_list w b old)
finds w b old o long l =
    let g = good w o in
    subst (Claimed w g long b) (sym (call_taken w b old o l))
    (within_cases (λ (p : Within). Claimed w g long b (taken b p)) b (whole w) old (hit w g long b) (miss w g long b old) (off w g long b old))

-- ---- of any call

-- a larger budget changes nothing but a budget used up
larger_taken : (w : Work) (b c : ℕ) (old : List ℕ) → b ≤ c → enough w ≤ b → taken c (within c (whole w) old) ≡ taken b (within b (whole w) old)
larger_taken w b c old l h =
    let e : c - (c - enough w) ≡ b - (b - enough w) = omega (arith, l, h) in
    ap (taken c) (within_all c (whole w) old (omega (arith, l, h)))
    ∙ ap (λ (m : ℕ). record { sought = record { answer = Taken; outcome = cond (whole w).found Found NoRound; nodes = m }; list = cond (whole w).found (whole w).list old }) e
    ∙ sym (ap (taken b) (within_all b (whole w) old h))

-- what `NodeBudgets` says, of the answers at two budgets
Kept : Work → ℕ → List ℕ → Answered → ((c : ℕ) → Answered) → Type 0
Kept w b old a at =
    (a.sought.nodes ≤ b) × ((a.sought.outcome ≡ Found → ⊥) → a.list ≡ old) × ((c : ℕ) → b ≤ c → (a.sought.outcome ≡ UsedUp → ⊥) → at c ≡ a)

taken_kept : (w : Work) (b : ℕ) (old : List ℕ) → Kept w b old (taken b (within b (whole w) old)) (λ c. taken c (within c (whole w) old))
unfolding Kept
taken_kept w b old = (
  omega arith,
  within_cases (λ (p : Within). (p.outcome ≡ Found → ⊥) → p.list ≡ old) b (whole w) old (λ _ _ e. absurd (e refl)) (λ _ _ _. refl) (λ _ _. refl),
  λ c l no. ⊎_elim (larger_taken w b c old l) (λ h. absurd (no (ap (λ (p : Within). p.outcome) (within_off b (whole w) old h)))) (fits? (enough w) b),
)

refused_kept : (w : Work) (b : ℕ) (old : List ℕ) (a : Answer) → Kept w b old (record { sought = refused a; list = old }) (λ _. record { sought = refused a; list = old })
unfolding Kept
refused_kept w b old a = (zero-le, (λ _. refl), λ _ _ _. refl)

kept : (w : Work) (b : ℕ) (old : List ℕ) (at : (c : ℕ) → Answered) → ((c : ℕ) → answered w c old ≡ at c) → Kept w b old (at b) at → NodeBudgets w b old
unfolding Kept
kept w b old at e k =
    let f = ap (λ (a : Answered). a.sought) (e b) in
    record {
      most = subst (λ (r : Sought). r.nodes ≤ b) (sym f) k.0;
      keeps = λ no. ap (λ (a : Answered). a.list) (e b) ∙ k.1 (λ q. no (ap (λ (r : Sought). r.outcome) f ∙ q));
      larger = λ c l no.
          let s = e c ∙ k.2 c l (λ q. no (ap (λ (r : Sought). r.outcome) f ∙ q)) ∙ sym (e b) in
          (ap (λ (a : Answered). a.sought) s, ap (λ (a : Answered). a.list) s);
    }

pub node_budgets : (w : Work) (b : ℕ) (old : List ℕ) → NodeBudgets w b old
node_budgets w b old =
    ⊎_elim (λ (o : bad w ≡ true). kept w b old (λ _. record { sought = refused BadWork; list = old }) (λ c. call_bad w c old o) (refused_kept w b old BadWork))
    (λ (o : bad w ≡ false).
    ⊎_elim (λ (l : eqb (length old) w.n ≡ true). kept w b old (λ c. taken c (within c (whole w) old)) (λ c. call_taken w c old o (eqb-true (length old) w.n l)) (taken_kept w b old))
    (λ (l : eqb (length old) w.n ≡ false).
    kept w b old (λ _. record { sought = refused WrongLength; list = old }) (λ c. call_long w c old o (eqb-false (length old) w.n l)) (refused_kept w b old WrongLength))
    (cases (eqb (length old) w.n)))
    (cases (bad w))

-- ---- what the code computes

pub call_code : (w : Work) (b : ℕ) (old : List ℕ) (p : Within) → bad w ≡ false → length old ≡ w.n
    → p ≡ within b (search_from w.n (node w (rows_of w))) old → taken b p ≡ answered w b old
unfolding whole
call_code w b old p o l e = ap (taken b) e ∙ sym (call_taken w b old o l)
