-- The components outside a set are the connected groups: two stations are in the same one exactly when a path of neighbours outside the set joins
-- them. Assumes nothing.
use mathlib.Core.Path.{◌≡◌, sym}
use mathlib.Core.Logic.{◌↔◌, ⊎_elim}
use mathlib.Core.Bool.{Bool, true, not}
use mathlib.Core.List.{List, [], ◌∷◌}
use Prim.Native.Nat.{ℕ, zero, suc, ◌^◌, ◌<◌}
use native.Mathlib.Nat.{le_of_suc-le-suc, not-suc-le-zero, eq-or-lt_of_le}
use lib.Dec.{eqb}
use lib.ListN.{get_or, length}
use borrow.Author.Tests.{not-true}
use Rattle.bitset.specs.Sets.{has, first, set_of, minus}
use Rattle.bitset.proofs.BoolLaws.{not_both, cond_elim}
use Rattle.bitset.proofs.QuantLaws.{below?}
use Rattle.bitset.proofs.FirstLaws.{first_at}
use Rattle.bitset.proofs.SetLaws.{set_of_elim, minus_elim, some_member}
use Rattle.circuit.specs.Legs.{neighbours}
use Rattle.circuit.proofs.LegsLaws.{neighbours_swap}
use Rattle.separator.specs.Choice.{Walk}
use Rattle.separator.specs.Components.{grow, components_from, components}
use Rattle.separator.specs.Connected.{Free, Joined, Member, Together, ConnectedGroups}
use Rattle.separator.proofs.ComponentLaws.{components_closed, components_cover, components_own}
use Rattle.separator.proofs.WalkLaws.{walk_start, walk_end, walk_on, walk_keeps, walk_back, grown_from}

-- ---- each group is walked to from one station; all of the room is In

module _ (n : ℕ) (R : ℕ → ℕ → Bool) (room : ℕ) (In : ℕ → Type 0) (inside : (i : ℕ) → has room i ≡ true → In i) where
  -- each station of w is walked to from k
  abbrev From : ℕ → ℕ → Type 0
  From k w = (j : ℕ) → has w j ≡ true → Walk R In k j

  -- each set of the list is walked to from one station
  abbrev Rooted : List ℕ → Type 0
  Rooted l = (c : ℕ) → c < length l → (k : ℕ) × From k (get_or l c 0)

  rooted_nil : Rooted []
  rooted_nil c h = absurd (not-suc-le-zero h)

  rooted_cons : (w k : ℕ) (l : List ℕ) → From k w → Rooted l → Rooted (w ∷ l)
  rooted_cons w k l f r zero h = (k, f)
  rooted_cons w k l f r (suc c) h = r c (le_of_suc-le-suc h)

  list_rooted : (f rest : ℕ) → ((k : ℕ) → has rest k ≡ true → (k < n) × (has room k ≡ true)) → Rooted (components_from f n R room rest)
  unfolding components_from
  list_rooted zero rest h = rooted_nil
  list_rooted (suc f) rest h =
      let k : ℕ = first n (has rest) in
      let w : ℕ = grow n n R room (2 ^ k) in
      let l : List ℕ = components_from f n R room (minus n rest w) in
      let more : Rooted l = list_rooted f (minus n rest w) (λ j e. h j (minus_elim n rest w j e).1) in
      cond_elim Rooted (eqb rest 0) [] (w ∷ l) (λ _. rooted_nil) (λ z.
      let (j, m, e) = some_member n rest (λ j e. (h j e).0) z in
      rooted_cons w k l (grown_from n R room In inside k (inside k (h k (first_at n (has rest) j m e).1).1)) more)

-- ---- the components

module _ (n : ℕ) (t : List ℕ) (s : ℕ) where
  abbrev cs : List ℕ
  cs = components n t s

  -- a station of each, from which a path leads to all of it
  root : (c : ℕ) → c < length cs → (k : ℕ) × ((j : ℕ) → has (get_or cs c 0) j ≡ true → Joined n t s k j)
  unfolding components
  root = list_rooted n (neighbours t) room (Free n s) out n room (λ k e. ((out k e).0, e))
    where
      room : ℕ
      room = set_of n (λ k. not (has s k))

      out : (i : ℕ) → has room i ≡ true → Free n s i
      out i e = let f = set_of_elim n (λ k. not (has s k)) i e in (f.0, not-true (has s i) f.1)

  joins : (c i j : ℕ) → Member cs c i → Member cs c j → Joined n t s i j
  joins c i j (l, p) (_, q) = let (k, f) = root c l in walk_on (walk_back (λ a b _ _. neighbours_swap t a b) (f i p)) (f j q)

  keeps : (c i j : ℕ) → Joined n t s i j → Member cs c i → Member cs c j
  keeps c i j = walk_keeps (Member cs c) (λ a b p q r (l, e). (l, components_closed n t s c a b p.0 q.0 q.1 r e))

  covered : (i : ℕ) → Free n s i → (c : ℕ) × Member cs c i
  covered i (l, z) = let (c, m, e) = components_cover n t s i l z in (c, (m, e))

  -- the later of two components has a station that the earlier one has not
  earlier : (c d i : ℕ) → c < d → Member cs c i → Member cs d i → ⊥
  earlier c d i l p q =
      let (a, _, _, e, f) = components_own n t s d q.0 in
      not_both (keeps c i a (joins d i a q (q.0, e)) p).1 (f c l)

  -- The components outside s are the connected groups of the stations outside s.
  pub components_connected : ConnectedGroups n t s (components n t s)
  components_connected =
      record {
        some = λ c l. let (a, _, _, e, _) = components_own n t s c l in (a, (l, e));
        free = λ c i m. walk_end (joins c i i m m);
        covers = covered;
        joined = joins;
        kept = keeps;
        apart = λ c d i p q.
            ⊎_elim (λ l. absurd (earlier c d i l p q)) (λ g. ⊎_elim sym (λ l. absurd (earlier d c i l q p)) (eq-or-lt_of_le g)) (below? c d);
      }

  -- Two stations are in the same component exactly when a path of neighbours outside s joins them.
  pub together_joined : (i j : ℕ) → Together (components n t s) i j ↔ Joined n t s i j
  together_joined i j = (λ (c, p, q). g.joined c i j p q, λ w. let (c, p) = g.covers i (walk_start w) in (c, p, g.kept c i j w p))
    where
      g : ConnectedGroups n t s (components n t s)
      g = components_connected
