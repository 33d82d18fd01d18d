-- Falling through the levels from the last: the groups of the stations above a level, and the levels that are told to leave the table. Assumes nothing.
use mathlib.Core.Path.{◌≡◌, sym, ap, ◌∙◌, subst}
use mathlib.Core.Logic.{◌⊎◌, inl, inr, ⊎_elim}
use mathlib.Core.Bool.{true}
use mathlib.Core.List.{List}
use Prim.Native.Nat.{ℕ, zero, suc, ◌+◌, ◌≤◌, ◌<◌}
use native.Mathlib.Omega.{arith}
use lib.Bits.{bit_or}
use lib.Count.{ones}
use lib.ListN.{length, take}
use borrow.Author.Tests.{leb-true}
use Rattle.bitset.specs.Sets.{has, size}
use Rattle.bitset.specs.Upto.{Each, row}
use Rattle.bitset.proofs.BoolLaws.{is_false, not_both}
use Rattle.bitset.proofs.QuantLaws.{below?}
use Rattle.bitset.proofs.HasLaws.{has_zero}
use Rattle.bitset.proofs.SetLaws.{has_self, members_below}
use Rattle.bitset.proofs.OnesLaws.{size_ones}
use Rattle.circuit.specs.Legs.{leg}
use Rattle.circuit.specs.Verdict.{leaves}
use Rattle.circuit.proofs.LegsLaws.{column_leg}
use Rattle.separator.specs.Choice.{Walk}
use Rattle.separator.specs.Connected.{Free}
use Rattle.separator.specs.Level.{level}
use Rattle.idle.specs.inner.Idle.{Idle}
use Rattle.separator.specs.Levels.{levels, inner}
use Rattle.separator.proofs.InnerLaws.{inner_from, inner_start, inner_step, inner_end}
use Rattle.separator.specs.declared.level.Ends.{Ends}
use Rattle.idle.specs.declared.groups.Groups.{Groups}
use Rattle.circuit.specs.declared.network.Network.{Network}
use Rattle.idle.specs.inner.Groups.{Along, GroupIn, group_at, GroupingIn, Pairs, Settles, Spans}
use Rattle.separator.specs.inner.Reach.{Linked}
use Rattle.idle.proofs.IdleLaws.{Certified, level_idle_more}
use Rattle.idle.proofs.PlaceLaws.{Levelled, levels_hang, spans_none, spans_down}
use Rattle.idle.proofs.RisingLaws.{PairsAt}
use Rattle.separator.proofs.WalkLaws.{walk_on, walk_back, walk_map}

module _ (net : Network) (nbr : List ℕ) (D : Linked net.n net.rows nbr) where
  abbrev n : ℕ
  n = net.n

  abbrev t : List ℕ
  t = net.rows

  abbrev cols : List ℕ
  cols = net.cols

  module _ {seed : ℕ} {word : List ℕ} {count : ℕ} (L : Levelled n t seed word count) where
    -- a word of other levels has no station of level k
    spans_free : (k i j v : ℕ) → k < count → j ≤ count → ((m : ℕ) → i ≤ m → m < j → m ≡ k → ⊥) → Spans word i j v
        → (x : ℕ) → has v x ≡ true → Free n (row word k) x
    spans_free k i j v lk lj apart S x h =
        let (m, a, b, e) = S.holds x h in
        (L.below m x (omega arith) e, is_false (has (row word k) x) (λ f. apart m a b (L.once m k x (omega arith) lk e f)))

    module _ (k : ℕ) (some : 1 ≤ k) (low : k + 1 < count) (groups : Groups) (S : Spans word (k + 1) count groups.room)
        (G : GroupingIn t cols nbr groups) (all : groups.left ≡ 0) (ends : Ends) (P : PairsAt t cols word seed k ends)
        (out into : List ℕ) (above : (g : ℕ) → g < groups.count → (H : GroupIn t cols nbr groups.room (group_at groups.groups g))
        → Pairs t cols groups.room (row word k) H.pivot (row out g) (row into g))
        (last_out : row out groups.count ≡ ends.tails) (last-into : row into groups.count ≡ ends.heads) where
      abbrev s : ℕ
      s = row word k

      abbrev q : ℕ
      q = groups.count

      abbrev lower : ℕ
      lower = P.0

      each : (g : ℕ) → g < q → Certified n t cols nbr s (row out g) (row into g)
      each g l =
          let H = G.each g l in
          record {
            room = groups.room;
            pivot = H.pivot;
            part = (group_at groups.groups g).part;
            free = spans_free k (k + 1) count groups.room (omega arith) (omega arith) (λ m a b e. omega arith) S;
            hangs = H.hangs;
            pairs = above g l H;
          }

      -- the levels below, one group with the seed
      below : Certified n t cols nbr s (row out q) (row into q)
      below =
          record {
            room = lower;
            pivot = seed;
            part = lower;
            free = spans_free k 0 k lower (omega arith) (omega arith) (λ m a b e. omega arith) P.1;
            hangs = levels_hang D L k lower (omega arith) P.1;
            pairs =
                subst (λ (x : ℕ). Pairs t cols lower s seed x (row into q)) (sym last_out)
                (subst (λ (x : ℕ). Pairs t cols lower s seed ends.tails x) (sym last-into) P.2);
          }

      -- a station outside the level is above it or below it
      covers : (x : ℕ) → Free n s x → ((g : ℕ) × (l : g < q) × (has (each g l).part x ≡ true)) ⊎ (has below.part x ≡ true)
      unfolding each below
      covers x (lx, o) =
          let (m, lm, e) = L.covers x lx in
          ⊎_elim
          (λ a. inr (P.1.found m x (omega arith) a e))
          (λ b.
          let apart : m ≡ k → ⊥ = λ f. not_both (subst (λ (m : ℕ). has (row word m) x ≡ true) f e) o in
          inl (G.covers x (S.found m x (omega (arith, apart)) lm e) (ap (λ (v : ℕ). has v x) all ∙ has_zero x)))
          (below? m k)

      -- so the level leaves the table
      pub level_told : ((i j : ℕ) → i < n → j < n → Walk (leg t) (λ x. x < n) i j)
          → Settles out (q + 1) s cols → Settles into (q + 1) s t → level n t s ≡ leaves t
      level_told =
          level_idle_more n t cols nbr net.columned D s (members_below n s (λ x. L.below k x (omega arith))) q out into each below covers (
            seed,
            (
              L.below 0 seed (omega arith) at_seed,
              is_false (has s seed) (λ e.
                  let z : 0 ≡ k = L.once 0 k seed (omega arith) (omega arith) at_seed e in omega arith),
            ),
          )
        where
          at_seed : has (row word 0) seed ≡ true
          at_seed = ap (λ (v : ℕ). has v seed) L.first ∙ has_self seed

    -- where the seed leads to all stations and all lead to it, any two are joined by a walk
    pub strong_all : (v : ℕ) → Spans word 0 count v → ((x : ℕ) → x < n → Along t v seed x × Along cols v seed x)
        → (i j : ℕ) → i < n → j < n → Walk (leg t) (λ x. x < n) i j
    strong_all v S all i j li lj =
        walk_on
        (walk_back (λ a b la lb r. sym (ap (λ (x : List ℕ). leg x a b) net.columned.columns ∙ column_leg n t net.most b a lb la) ∙ r)
        (walk_map (λ a b _ _ r. r) low (all i li).1))
        (walk_map (λ a b _ _ r. r) low (all j lj).0)
      where
        low : (x : ℕ) → has v x ≡ true → x < n
        low x h = let (k, _, l, e) = S.holds x h in L.below k x l e

-- ---- the loop: the levels from k on are told, and `groups` has the groups above level k
pub record Falling (net : Network) (nbr : List ℕ) (limit : ℕ) (word : List ℕ) (count : ℕ) (groups : Groups) (k : ℕ) : Type 0 where
  pub low : k < count
  pub spans : Spans word (k + 1) count groups.room
  pub grouping : GroupingIn net.rows net.cols nbr groups
  pub told : (j : ℕ) → k ≤ j → j + 1 < count → ones (row word j) ≤ limit → level net.n net.rows (row word j) ≡ leaves net.rows

module _ {net : Network} {nbr : List ℕ} {limit : ℕ} {word : List ℕ} {count : ℕ} where
  pub falling_start : {groups : Groups} → GroupingIn net.rows net.cols nbr groups → groups.room ≡ 0 → (k : ℕ) → k + 1 ≡ count
      → Falling net nbr limit word count groups k
  falling_start G none k e =
      record {
        low = omega arith;
        spans = subst (λ (v : ℕ). Spans word (k + 1) count v) (sym none) (subst (λ (i : ℕ). Spans word i count 0) (sym e) (spans_none count));
        grouping = G;
        told = λ j a b. absurd (let z : ⊥ = omega arith in z);
      }

  pub falling_spans : {groups : Groups} {k : ℕ} → Falling net nbr limit word count groups k → (j : ℕ) → j + 1 ≡ k → (more : Groups)
      → more.room ≡ bit_or groups.room (row word (j + 1)) → Spans word (j + 1) count more.room
  falling_spans {groups} {k} F j e more r =
      subst (λ (v : ℕ). Spans word (j + 1) count v) (sym r)
      (subst (λ (i : ℕ). Spans word i count (bit_or groups.room (row word i))) (sym e) (spans_down F.low F.spans))

  pub falling_turn : {groups : Groups} {k : ℕ} → Falling net nbr limit word count groups k → (j : ℕ) → j + 1 ≡ k
      → {more : Groups} → GroupingIn net.rows net.cols nbr more → more.room ≡ bit_or groups.room (row word (j + 1))
      → (ones (row word j) ≤ limit → level net.n net.rows (row word j) ≡ leaves net.rows)
      → Falling net nbr limit word count more j
  falling_turn {k = k} F j e {more} G r this =
      record {
        low = omega (arith, F.low);
        spans = falling_spans F j e more r;
        grouping = G;
        told = λ m a b le. ⊎_elim
            (λ l. let q : j ≡ m = omega arith in subst (λ (m : ℕ). ones (row word m) ≤ limit → level net.n net.rows (row word m) ≡ leaves net.rows) q this le)
            (λ g. F.told m g b le) (below? m k);
      }

-- ---- when the loop is done, all inner levels are told

inner_each : (P : ℕ → Type 0) (level : List ℕ) (count : ℕ) → count ≤ length level → ((j : ℕ) → 1 ≤ j → j + 1 < count → P (row level j))
    → (f j : ℕ) → 1 ≤ j → count ≤ j + f + 1 → Each P (inner_from j count level)
inner_each P level count long told zero j some h = subst (Each P) (sym (inner_end j count level (omega arith))) tt
inner_each P level count long told (suc f) j some h =
    ⊎_elim
    (λ l. subst (Each P) (sym (inner_step j count level l long)) (told j some l, inner_each P level count long told f (j + 1) (omega arith) (omega arith)))
    (λ g. subst (Each P) (sym (inner_end j count level g)) tt)
    (below? (j + 1) count)

pub falling_end : {net : Network} {nbr : List ℕ} {limit seed : ℕ} {level : List ℕ} {count : ℕ} {groups : Groups} {k : ℕ}
    → Falling net nbr limit level count groups k → k ≤ 1 → Levelled net.n net.rows seed level count → count ≤ length level
    → take count level ≡ levels net.n net.rows seed → Idle net.n net.rows limit (inner (levels net.n net.rows seed))
falling_end {net} {limit = limit} {level = level} {count = count} F last L long e =
    let n = net.n in
    let t = net.rows in
    subst (λ (ls : List ℕ). Idle n t limit (inner ls)) e
    (subst (Idle n t limit) (sym (inner_start count level long))
    (inner_each _ level count long
    (λ j a b le.
    let few = leb-true (size n (row level j)) limit le in
    F.told j (omega arith) b (omega (arith, few, size_ones n (row level j) (members_below n (row level j) (λ x. L.below j x (omega arith)))))) count 1 (omega arith) (omega arith)))
