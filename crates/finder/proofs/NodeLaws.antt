-- The nodes of the search: what holds of every node and of its run, and of which nodes the run need not be made. Assumes nothing.
use mathlib.Core.Path.{◌≡◌, refl, sym, ap, ap₂, ◌∙◌, subst}
use mathlib.Core.Logic.{⊎_elim}
use mathlib.Core.Bool.{Bool, true, false}
use mathlib.Core.List.{List}
use Prim.Native.Nat.{ℕ, suc, ◌-◌, ◌^◌, ◌≤◌, ◌<◌, zero-le}
use native.Mathlib.Omega.{arith}
use native.Mathlib.Nat.{eq-or-lt_of_le, le_of_suc-le-suc, lt_of_lt_of_le, le_refl}
use lib.ListN.{set, length, length-set}
use lib.Pow.{pow_mono}
use Rattle.bitset.specs.Upto.{row}
use Rattle.bitset.proofs.BoolLaws.{cases, clash, not_both}
use Rattle.circuit.specs.declared.state.Work.{Work}
use Rattle.circuit.specs.declared.card.End.{End}
use Rattle.circuit.specs.declared.card.End.TheVariants.{Open, Stable, None}
use Rattle.circuit.specs.Legs.{leg, Subtable}
use Rattle.circuit.specs.Round.{RoundOf, All}
use Rattle.circuit.specs.State.{is_none, rows_of, moved, Good}
use Rattle.circuit.proofs.StateLaws.{stray_row_lem, stray_sub, moved_good}
use Rattle.filter.specs.declared.hand.Called.{Called}
use Rattle.filter.specs.declared.cycle.Ran.{Ran}
use Rattle.filter.specs.declared.rule.Rule.TheVariants.{Sweep, Chain}
use Rattle.filter.specs.Calls.{hand_call}
use Rattle.filter.specs.Ends.{full_budget}
use Rattle.filter.specs.Leads.{Leads}
use Rattle.filter.specs.Stable.{Fixpoint, CycleInvariant}
use Rattle.filter.specs.Inside.{Inside}
use Rattle.filter.proofs.CallLaws.{run_call_leads, hand_call_leads, open_none}
use Rattle.filter.proofs.StableLaws.{begun_invariant, run_invariant, run_fixpoint, fixpoint_again}
use Rattle.filter.proofs.MonotoneLaws.{sweep_inside, chain_inside}
use Rattle.finder.specs.Search.{node, settled, decided}
use Rattle.finder.specs.inner.Nodes.{stable_at, Begun, Settles}
use Rattle.finder.proofs.DecideLaws.{set_only, set_sub, set_round, set_same}

-- ---- a node that is entered

-- the given state with a part of its table
node_begun : (w : Work) (t : List ℕ) → Good w → Subtable t (rows_of w) → length t ≡ 64 → Begun (node w t)
node_begun w t g sub long =
    record { good = moved_good w t 0 false Open g (stray_sub w.n (rows_of w) t sub g.table) zero-le; long = long; place = refl; end = refl }

pub root_begun : (w : Work) → Good w → length (rows_of w) ≡ 64 → Begun (node w (rows_of w))
root_begun w g long = node_begun w (rows_of w) g (λ i j h. h) long

-- ---- its run

is_none_lem : (e : End) → is_none e ≡ true → e ≡ None
is_none_lem Open h = clash (sym h)
is_none_lem Stable h = clash (sym h)
is_none_lem None h = refl

module _ (w : Work) where
  runs : Leads All w (settled w)
  unfolding settled
  runs = run_call_leads All w full_budget

  pub settled_n : (settled w).n ≡ w.n
  settled_n = runs.stations

  pub settled_sub : Subtable (rows_of (settled w)) (rows_of w)
  settled_sub = runs.sub

  pub settled_round : (x : ℕ → ℕ) → RoundOf w.n (rows_of w) x → RoundOf w.n (rows_of (settled w)) x
  settled_round x = runs.rounds x tt

module _ (w : Work) (b : Begun w) where
  pub settled_good : Good (settled w)
  settled_good = (runs w).keeps b.good

  settled_long : length (rows_of (settled w)) ≡ 64
  settled_long = (runs w).long b.long

  pub settled_word : (i : ℕ) → i < w.n → row (rows_of (settled w)) i < 2 ^ 64
  settled_word i l =
      let g = settled_good in
      lt_of_lt_of_le (stray_row_lem (settled w).n (rows_of (settled w)) g.most g.table i (omega (arith, l, settled_n w))) (pow_mono g.most)

  -- its end is none only where the table has no round
  pub none_true : is_none (settled w).end ≡ true → (x : ℕ → ℕ) → RoundOf w.n (rows_of w) x → ⊥
  none_true e x r = ⊎_elim (λ z. open_none (sym b.end ∙ z)) (λ f. f x tt r) ((runs w).none (is_none_lem (settled w).end e))

  begun : CycleInvariant w
  begun = begun_invariant w b.good b.long b.place b.end

  -- otherwise it is stable, at a fixpoint
  module _ (e : is_none (settled w).end ≡ false) where
    fixed : ((settled w).end ≡ Stable) × Fixpoint (settled w)
    unfolding settled
    fixed = run_fixpoint w full_budget begun (le_refl full_budget) e

    home : ((settled w).place ≡ 0) × ((settled w).mark ≡ false)
    unfolding settled
    home = (run_invariant w full_budget begun).home fixed.0

    pub settled_is : settled w ≡ stable_at w.n w.limit (rows_of (settled w))
    settled_is =
        let v = settled w in
        ap₂ (λ (x : ℕ) (y : Bool). moved v (rows_of v) x y v.end) home.0 home.1 ∙ ap (moved v (rows_of v) 0 false) fixed.0
        ∙ ap₂ (λ (n limit : ℕ). stable_at n limit (rows_of v)) (runs w).stations (runs w).limit

    -- Forced node: a decision that leaves its row as it is makes a child whose run leaves its table.
    pub forced : (d j : ℕ) → d < 64 → row (rows_of (settled w)) d ≡ 2 ^ j
        → settled (decided (settled w) d j) ≡ stable_at (settled w).n (settled w).limit (rows_of (decided (settled w) d j))
    unfolding settled decided
    forced d j l q =
        let v = settled w in
        let g = settled_good in
        subst (λ (t : List ℕ). settled (node v t) ≡ stable_at v.n v.limit t) (sym (set_same (rows_of v) d (2 ^ j) (omega (arith, l, settled_long)) q))
        (ap (λ (r : Ran). r.work) (fixpoint_again v g fixed.1 full_budget (omega (arith, g.most))))

  pub decided_begun : (d j : ℕ) → leg (rows_of (settled w)) d j ≡ true → Begun (decided (settled w) d j)
  unfolding decided
  decided_begun d j h =
      node_begun (settled w) (set (rows_of (settled w)) d (2 ^ j)) settled_good (set_sub (rows_of (settled w)) d j h) (length-set (rows_of (settled w)) d (2 ^ j) ∙ settled_long)

-- ---- quick none: sweeps and chain steps by hand

-- x is what they made of the node w: each fixpoint within w lies within x
pub record Closing (w x : Work) : Type 0 where
  pub long : length (rows_of x) ≡ 64
  pub inside : (t : Work) → Fixpoint t → Inside t w → Inside t x

module _ (w x : Work) (c : Called) (C : Closing w x) where
  pub closing_sweep : c ≡ hand_call x Sweep → Closing w c.work
  closing_sweep e =
      subst (λ (r : Called). Closing w r.work) (sym e)
      (record { long = (hand_call_leads All x Sweep).long C.long; inside = λ t F I. sweep_inside t x F (C.inside t F I) })

  pub closing_chain : c ≡ hand_call x Chain → Closing w c.work
  closing_chain e =
      subst (λ (r : Called). Closing w r.work) (sym e)
      (record { long = (hand_call_leads All x Chain).long C.long; inside = λ t F I. chain_inside t x F (C.inside t F I) })

-- where they end none the run does, since a stable end would lie within
pub closing_none : (w x : Work) → Begun w → Closing w x → is_none x.end ≡ true → is_none (settled w).end ≡ true
closing_none w x b C e =
    ⊎_elim (λ (q : is_none (settled w).end ≡ true). q)
    (λ (q : is_none (settled w).end ≡ false).
    absurd (not_both e (C.inside (settled w) (fixed w b q).1 (record { stations = sym (settled_n w); going = ap is_none b.end; sub = settled_sub w })).going))
    (cases (is_none (settled w).end))

-- ---- what the code's run of a node gives

pub settles_known : (w : Work) → settled w ≡ stable_at w.n w.limit (rows_of w) → Settles w false (rows_of w)
settles_known w e = record { ends = ap (λ (v : Work). is_none v.end) (sym e); leaves = λ _. e }

pub settles_none : (w : Work) (rows : List ℕ) → is_none (settled w).end ≡ true → Settles w true rows
settles_none w rows e = record { ends = sym e; leaves = λ z. clash z }

pub settles_run : (w v : Work) (none : Bool) → Begun w → none ≡ is_none v.end → v ≡ settled w → Settles w none (rows_of v)
settles_run w v none b e is =
    let ends = e ∙ ap (λ (x : Work). is_none x.end) is in
    record { ends = ends; leaves = λ f. settled_is w b (sym ends ∙ f) ∙ ap (λ (x : Work). stable_at w.n w.limit (rows_of x)) (sym is) }

-- ---- a node with u undecided stations: the others have one leg each

pub record Node (u : ℕ) (w : Work) : Type 0 where
  pub begun : Begun w
  pub fits : u ≤ w.n
  pub one : (i : ℕ) → i < w.n - u → (j k : ℕ) → leg (rows_of w) i j ≡ true → leg (rows_of w) i k ≡ true → j ≡ k

pub root : (w : Work) → Good w → length (rows_of w) ≡ 64 → Node w.n (node w (rows_of w))
root w g long = record { begun = root_begun w g long; fits = le_refl w.n; one = λ i l j k p q. absurd (let x : ⊥ = omega (arith, l) in x) }

module _ (u : ℕ) (w : Work) (a : Node (suc u) w) (j : ℕ) (h : leg (rows_of (settled w)) (w.n - suc u) j ≡ true) where
  abbrev v : Work
  v = settled w

  abbrev d : ℕ
  d = w.n - suc u

  pub child_n : (decided v d j).n ≡ w.n
  unfolding decided
  child_n = settled_n w

  pub child_sub : Subtable (rows_of (decided v d j)) (rows_of w)
  unfolding decided
  child_sub i k e = settled_sub w i k (set_sub (rows_of v) d j h i k e)

  pub child : Node u (decided v d j)
  unfolding decided
  child =
      record {
        begun = decided_begun w a.begun d j h;
        fits = omega (arith, settled_n w, a.fits);
        one = λ i l p q hp hq.
            ⊎_elim
            (λ (e : i ≡ d).
            let f : (k : ℕ) → leg (set (rows_of v) d (2 ^ j)) i k ≡ true → k ≡ j = λ k g. set_only (rows_of v) d j h k (ap (λ (x : ℕ). leg (set (rows_of v) d (2 ^ j)) x k) (sym e) ∙ g) in
            f p hp ∙ sym (f q hq))
            (λ (g : i < d). a.one i g p q (child_sub i p hp) (child_sub i q hq))
            (eq-or-lt_of_le (le_of_suc-le-suc (let z : suc i ≤ suc d = omega (arith, l, settled_n w, a.fits) in z)));
      }

  pub child_round : (x : ℕ → ℕ) → RoundOf w.n (rows_of w) x → x d ≡ j → RoundOf w.n (rows_of (decided v d j)) x
  unfolding decided
  child_round x r e = set_round (rows_of v) d j h w.n x (settled_round w x r) e

  -- a round of the child drives its leg
  pub child_drives : (x : ℕ → ℕ) → RoundOf w.n (rows_of (decided v d j)) x → d < w.n → x d ≡ j
  unfolding decided
  child_drives x r l = set_only (rows_of v) d j h (x d) (r.drives d l)
