-- What a node gives within a budget, on plain values: each way out, and the loop over the children. Assumes nothing.
use mathlib.Core.Path.{◌≡◌, refl, sym, ap, ap₂, ◌∙◌, subst}
use mathlib.Core.Logic.{⊎_elim}
use mathlib.Core.Bool.{Bool, cond, true, false}
use mathlib.Core.List.{List}
use Prim.Native.Nat.{ℕ, zero, suc, ◌-◌, ◌^◌, ◌<◌}
use native.Mathlib.Omega.{arith}
use lib.Bits.{bit_and, and_le_l}
use lib.Count.{count_trailing_zeros}
use lib.ListN.{set}
use Rattle.bitset.specs.Sets.{has}
use Rattle.bitset.specs.Upto.{row}
use Rattle.bitset.proofs.BoolLaws.{cases, and_l}
use Rattle.bitset.proofs.LeastLaws.{has_clear}
use Rattle.circuit.specs.declared.state.Work.{Work}
use Rattle.circuit.specs.Legs.{leg}
use Rattle.circuit.specs.State.{is_none, rows_of}
use Rattle.circuit.specs.Check.{check_call}
use Rattle.finder.specs.declared.outcome.Outcome.TheVariants.{Found, NoRound, UsedUp}
use Rattle.finder.specs.declared.search.Finder.{Finder}
use Rattle.finder.specs.Search.{Search, nothing, entered, and_then, children, settled, decided, list_in, leaf, search_from}
use Rattle.finder.specs.inner.Nodes.{node_at, stable_at, Begun, Settles}
use Rattle.finder.specs.inner.Finders.{Kept}
use Rattle.finder.specs.inner.Parts.{is_no_round, Within, within}
use Rattle.finder.proofs.ChildrenLaws.{children_lowest, children_empty}
use Rattle.finder.proofs.NodeLaws.{settled_word, forced, decided_begun}
use Rattle.finder.proofs.SearchLaws.{search_end, search_leaf, search_below, some_node, leaf_yes, leaf_no}
use Rattle.finder.proofs.WithinLaws.{within_all, within_off, within_nothing, within_enter, within_next, within_stop}

-- what one call after the other keeps
pub kept_then : {f g h : Finder} → Kept f g → Kept g h → Kept f h
kept_then a b = record { n = b.n ∙ a.n; limit = b.limit ∙ a.limit; same_reference = b.same_reference ∙ a.same_reference }

leaf_nodes : (v : Work) → (leaf v).nodes ≡ 0
leaf_nodes v =
    ⊎_elim (λ e. ap (λ (s : Search). s.nodes) (leaf_yes v e)) (λ e. ap (λ (s : Search). s.nodes) (leaf_no v e)) (cases (check_call v (list_in v.n (rows_of v))).yes)

module _ (n limit : ℕ) where
  -- the child of a node whose run leaves t, and the children for the stations of the word r; u stations are undecided at the node
  abbrev pub child : List ℕ → ℕ → ℕ → Work
  child t d j = node_at n limit (set t d (2 ^ j))

  abbrev pub below : ℕ → List ℕ → ℕ → ℕ → Search
  below u t d r = children (λ j. search_from (u - 1) (child t d j)) (has r) 64 0

  -- ---- the ways out of a node

  module _ (u : ℕ) (rows old : List ℕ) where
    abbrev w : Work
    w = node_at n limit rows

    pub node_off : record { outcome = UsedUp; left = 0; list = old } ≡ within 0 (search_from u w) old
    node_off = sym (within_off 0 (search_from u w) old (some_node w u))

    module _ (b : ℕ) (some : 0 < b) where
      enter : (s : Search) → search_from u w ≡ entered s → within (b - 1) s old ≡ within b (search_from u w) old
      enter s e = sym (ap (λ (x : Search). within b x old) e ∙ within_enter b s old some)

      module _ (none : Bool) (t : List ℕ) (S : Settles w none t) where
        pub node_end : none ≡ true → record { outcome = NoRound; left = b - 1; list = old } ≡ within b (search_from u w) old
        node_end e = sym (within_nothing (b - 1) old) ∙ enter nothing (search_end w u (sym S.ends ∙ e))

        module _ (e : none ≡ false) where
          abbrev v : Work
          v = stable_at n limit t

          on : is_none (settled w).end ≡ false
          on = sym S.ends ∙ e

          pub node_leaf : u ≡ 0
              → record { outcome = cond (leaf v).found Found NoRound; left = b - 1; list = cond (leaf v).found (leaf v).list old } ≡ within b (search_from u w) old
          node_leaf z =
              let m = leaf_nodes v in
              let left : b - 1 ≡ b - 1 - (leaf v).nodes = omega (arith, m) in
              ap (λ (x : ℕ). record { outcome = cond (leaf v).found Found NoRound; left = x; list = cond (leaf v).found (leaf v).list old }) left
              ∙ sym (within_all (b - 1) (leaf v) old (omega (arith, m)))
              ∙ enter (leaf v) (ap (λ (x : ℕ). search_from x w) z ∙ search_leaf w on ∙ ap (λ (x : Work). entered (leaf x)) (S.leaves e))

          pub node_children : 0 < u → within (b - 1) (below u t (n - u) (row t (n - u))) old ≡ within b (search_from u w) old
          unfolding leg decided
          node_children h = enter (below u t (n - u) (row t (n - u))) (go u h)
            where
              go : (u : ℕ) → 0 < u → search_from u w ≡ entered (below u t (n - u) (row t (n - u)))
              go zero l = absurd (let x : ⊥ = omega (arith, l) in x)
              go (suc u) l =
                  let fewer : u ≡ suc u - 1 = omega arith in
                  let d = n - suc u in
                  search_below w u on
                  ∙ ap (λ (x : Work). entered (children (λ j. search_from u (decided x d j)) (leg (rows_of x) d) 64 0)) (S.leaves e)
                  ∙ ap (λ (k : ℕ). entered (children (λ j. search_from k (child t d j)) (has (row t d)) 64 0)) fewer

  -- ---- the loop over the children

  -- the children left, with what is left of the budget, give what all of them give
  pub record Rest (u : ℕ) (t : List ℕ) (d b₀ r₀ : ℕ) (old : List ℕ) (b r : ℕ) (list : List ℕ) : Type 0 where
    pub word : r < 2 ^ 64
    pub among : (j : ℕ) → has r j ≡ true → has r₀ j ≡ true
    pub same : within b (below u t d r) list ≡ within b₀ (below u t d r₀) old

  module _ (u : ℕ) (t : List ℕ) (d b₀ r₀ : ℕ) (old : List ℕ) where
    pub rest_start : r₀ < 2 ^ 64 → Rest u t d b₀ r₀ old b₀ r₀ old
    rest_start h = record { word = h; among = λ j e. e; same = refl }

    module _ (b r : ℕ) (list : List ℕ) (R : Rest u t d b₀ r₀ old b r list) where
      pub rest_end : r ≡ 0 → record { outcome = NoRound; left = b; list = list } ≡ within b₀ (below u t d r₀) old
      rest_end e =
          sym (within_nothing b list) ∙ ap (λ (s : Search). within b s list) (sym (ap (below u t d) e ∙ children_empty (λ j. search_from (u - 1) (child t d j)) 64 0)) ∙ R.same

      -- the lowest child, at the rows and the word that the code has of it, gives p
      module _ (some : 0 < r) (now : List ℕ) (only : ℕ) (is : now ≡ t) (one : only ≡ 2 ^ count_trailing_zeros 64 r) (p : Within)
          (g : p ≡ within b (search_from (u - 1) (node_at n limit (set now d only))) list) where
        first : Search
        first = search_from (u - 1) (child t d (count_trailing_zeros 64 r))

        others : Search
        others = below u t d (bit_and r (r - 1))

        gives : p ≡ within b first list
        unfolding first
        gives = g ∙ ap₂ (λ (x : List ℕ) (y : ℕ). within b (search_from (u - 1) (node_at n limit (set x d y))) list) is one

        split : within b (and_then first others) list ≡ within b₀ (below u t d r₀) old
        unfolding first others
        split = ap (λ (s : Search). within b s list) (sym (children_lowest (λ j. search_from (u - 1) (child t d j)) r some R.word)) ∙ R.same

        -- it has no round: on to the next
        pub rest_next : is_no_round p.outcome ≡ true → Rest u t d b₀ r₀ old p.left (bit_and r (r - 1)) p.list
        unfolding others
        rest_next e =
            record {
              word = omega (arith, and_le_l r (r - 1), R.word);
              among = λ j m. R.among j (and_l (has r j) _ (sym (has_clear 64 r j some R.word) ∙ m));
              same = ap (λ (x : Within). within x.left others x.list) gives ∙ sym (within_next b first others list (ap (λ (x : Within). is_no_round x.outcome) (sym gives) ∙ e)) ∙ split;
            }

        -- it has one, or the budget is used up
        pub rest_stop : is_no_round p.outcome ≡ false → p ≡ within b₀ (below u t d r₀) old
        rest_stop e = gives ∙ sym (within_stop b first others list (ap (λ (x : Within). is_no_round x.outcome) (sym gives) ∙ e)) ∙ split

  -- ---- the children of a node whose run does not end none

  module _ (rows t : List ℕ) (b : Begun (node_at n limit rows)) (none : Bool) (S : Settles (node_at n limit rows) none t) (e : none ≡ false) (d : ℕ) (l : d < n) where
    pub row_word : row t d < 2 ^ 64
    row_word = subst (λ (v : Work). row (rows_of v) d < 2 ^ 64) (S.leaves e) (settled_word (node_at n limit rows) b d l)

    module _ (j : ℕ) where
      child_begun : has (row t d) j ≡ true → Begun (child t d j)
      unfolding leg decided
      child_begun = subst (λ (v : Work). leg (rows_of v) d j ≡ true → Begun (decided v d j)) (S.leaves e) (decided_begun (node_at n limit rows) b d j)

      child_known : row t d ≡ 2 ^ j → settled (child t d j) ≡ stable_at n limit (set t d (2 ^ j))
      unfolding decided
      child_known =
          subst (λ (v : Work). row (rows_of v) d ≡ 2 ^ j → settled (decided v d j) ≡ stable_at v.n v.limit (rows_of (decided v d j))) (S.leaves e)
          (forced (node_at n limit rows) b (sym S.ends ∙ e) d j (omega (arith, l, b.good.most)))

      -- at the rows and the word that the code has: a node, and known where its row had the one leg already
      pub ready : has (row t d) j ≡ true → (now : List ℕ) (only : ℕ) → now ≡ t → only ≡ 2 ^ j
          → Begun (node_at n limit (set now d only)) × (row t d ≡ only → settled (node_at n limit (set now d only)) ≡ stable_at n limit (set now d only))
      ready h now only is one =
          let at = ap₂ (λ (r : List ℕ) (x : ℕ). set r d x) is one in (
            subst (λ (u : List ℕ). Begun (node_at n limit u)) (sym at) (child_begun h),
            λ q. subst (λ (u : List ℕ). settled (node_at n limit u) ≡ stable_at n limit u) (sym at) (child_known (q ∙ one)),
          )
