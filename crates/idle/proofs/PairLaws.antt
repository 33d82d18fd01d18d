-- The pairs of a level that groups outside it join, what the words of their ends say, and the assignment of the groups to them. Assumes nothing.
use mathlib.Core.Path.{◌≡◌, refl, sym, ap, ◌∙◌}
use mathlib.Core.Logic.{◌≢◌, ⊎_elim}
use mathlib.Core.Bool.{true, false, ◌&&◌}
use mathlib.Core.List.{List}
use Prim.Native.Nat.{ℕ, suc, ◌+◌, ◌-◌, ◌^◌, ◌<◌, ◌≤◌}
use native.Mathlib.Omega.{arith}
use lib.Bits.{bit_and, bit_or, and_le_l, and_le_r}
use lib.Count.{count_trailing_zeros}
use lib.Dec.{eqb, ltb}
use lib.ListN.{length, set}
use lib.Seq.{get_or-set_same, get_or-set_other}
use borrow.Author.Tests.{eqb-true, eqb-false, lt-ltb}
use Rattle.bitset.specs.Sets.{has, set_of, any}
use Rattle.bitset.specs.Upto.{row}
use Rattle.bitset.proofs.BoolLaws.{not_both, cases, and_intro}
use Rattle.bitset.proofs.HasLaws.{has_zero, has_and, member_below}
use Rattle.bitset.proofs.LeastLaws.{trailing_least}
use Rattle.bitset.proofs.QuantLaws.{at_or_below, any_intro}
use Rattle.bitset.proofs.SetLaws.{word_has}
use Rattle.bitset.proofs.WordLaws.{in_and, in_diff, diff_none, without_least}
use Rattle.circuit.specs.Legs.{leg}
use Rattle.matching.specs.Matching.{Inside, Exact}
use Rattle.idle.specs.declared.group.Group.{Group}
use Rattle.separator.specs.declared.reach.Led.{Led}
use Rattle.separator.specs.Components.{grow}
use Rattle.idle.specs.inner.Groups.{Part, Along, Reaches, GroupIn, group_at, Pair, Pairs, Settles}
use Rattle.idle.proofs.GroupLaws.{part_l, both_elim, grown_along, edge_along}

-- ---- stations of a word that have another one in a second word

abbrev pub Paired : ℕ → ℕ → ℕ → Type 0
Paired own other r = (x : ℕ) → has r x ≡ true → (has own x ≡ true) × ((y : ℕ) × (has other y ≡ true) × (y ≢ x))

pub paired_none : (own other : ℕ) → Paired own other 0
paired_none own other x e = absurd (not_both e (has_zero x))

module _ (own other : ℕ) (h : other < 2 ^ 64) (p : 0 < other) where
  -- a station that is not in the second word
  pub paired_outside : own < 2 ^ 64 → Paired own other (bit_and own ((2 ^ 64 - 1) - other))
  paired_outside ho x e =
      let (i, z) = in_diff 64 own other ho h x e in
      let low = (trailing_least 64 other p h).member in
      (i, (count_trailing_zeros 64 other, low, λ q. not_both low (ap (has other) q ∙ z)))

  -- any station, where the second word has two
  pub paired_any : 0 < bit_and other (other - 1) → Paired own other own
  paired_any more x i =
      let low : ℕ = count_trailing_zeros 64 other in
      let rest : ℕ = bit_and other (other - 1) in
      let y : ℕ = count_trailing_zeros 64 rest in
      let (e, n) = (without_least 64 other low p h refl).less y (trailing_least 64 rest more (omega (arith, and_le_l other (other - 1)))).member in (
        i,
        ⊎_elim
            (λ (q : eqb low x ≡ true). (y, e, λ r. n (r ∙ sym (eqb-true low x q))))
            (λ (q : eqb low x ≡ false). (low, (trailing_least 64 other p h).member, eqb-false low x q))
            (cases (eqb low x)),
      )

-- ---- the ends of the pairs by way of one pivot

module _ (s from to r : ℕ) (P : Paired (bit_and from s) (bit_and to s) r) where
  pub paired_part : Part r s
  paired_part x e = (in_and from s x (P x e).0).1

  pub paired_pair : (A B : ℕ → Type 0) → ((x : ℕ) → has from x ≡ true → A x) → ((y : ℕ) → has to y ≡ true → B y)
      → (x : ℕ) → has r x ≡ true → Pair s A B x
  paired_pair A B f g x e =
      let (own, (y, other, n)) = P x e in
      let (a, i) = in_and from s x own in
      let (b, j) = in_and to s y other in
      (i, f x a, (y, j, g y b, n))

-- what the words `tails` and `heads` of a group say: ends of pairs of s, whatever the table and the room are that the group is one of
pub record Joins (s : ℕ) (g : Group) (tails heads : ℕ) : Type 0 where
  pub tail : Part tails s
  pub head : Part heads s
  pub pairs : (t c b : List ℕ) (room : ℕ) (G : GroupIn t c b room g) → Pairs t c room s G.pivot tails heads

-- ---- gathering them, group by group

-- the words of the groups below g say so
abbrev pub Joining : ℕ → List Group → ℕ → List ℕ → List ℕ → Type 0
Joining s groups g out into = (k : ℕ) → k < g → Joins s (group_at groups k) (row out k) (row into k)

pub joining_more : (s : ℕ) (groups : List Group) (g d : ℕ) (out into : List ℕ) (tails heads : ℕ) → Joining s groups g out into → g < length out → g < length into
    → Joins s (group_at groups g) tails heads → d ≡ suc g → Joining s groups d (set out g tails) (set into g heads)
joining_more s groups g d out into tails heads each lo li new q k lk =
    ⊎_elim
    (λ (e : k ≡ g). rw (e, get_or-set_same out g tails 0 (omega arith), get_or-set_same into g heads 0 (omega arith)) new)
    (λ (m : k < g). rw (get_or-set_other out g k tails 0 (λ z. omega arith), get_or-set_other into g k heads 0 (λ z. omega arith)) (each k m))
    (at_or_below (omega arith))

-- the words of q groups, and after them those of the levels below
pub record Lined (s : ℕ) (groups : List Group) (q tails heads : ℕ) (out into : List ℕ) : Type 0 where
  pub pairs : (g : ℕ) → g < q → (t c b : List ℕ) (room : ℕ) (G : GroupIn t c b room (group_at groups g)) → Pairs t c room s G.pivot (row out g) (row into g)
  pub tail : row out q ≡ tails
  pub head : row into q ≡ heads
  pub out_inside : Inside out (q + 1) s
  pub into_inside : Inside into (q + 1) s

inside_more : (s : ℕ) (fits : List ℕ) (q v : ℕ) → q < length fits → ((g : ℕ) → g < q → Part (row fits g) s) → Part v s → Inside (set fits q v) (q + 1) s
inside_more s fits q v h old new g x l e =
    ⊎_elim
    (λ (z : g ≡ q). new x (ap (λ (w : ℕ). has w x) (sym (ap (row (set fits q v)) z ∙ get_or-set_same fits q v 0 h)) ∙ e))
    (λ (m : g < q). old g m x (ap (λ (w : ℕ). has w x) (sym (get_or-set_other fits q g v 0 (λ z. omega arith))) ∙ e))
    (at_or_below (omega arith))

pub lined : (s : ℕ) (groups : List Group) (q tails heads : ℕ) (out into : List ℕ) → Joining s groups q out into → q < length out → q < length into
    → Part tails s → Part heads s → Lined s groups q tails heads (set out q tails) (set into q heads)
lined s groups q tails heads out into J lo li pt ph =
    record {
      pairs = λ g m. rw (get_or-set_other out q g tails 0 (λ z. omega arith), get_or-set_other into q g heads 0 (λ z. omega arith)) (J g m).pairs;
      tail = get_or-set_same out q tails 0 lo;
      head = get_or-set_same into q heads 0 li;
      out_inside = inside_more s out q tails lo (λ g m. (J g m).tail) pt;
      into_inside = inside_more s into q heads li (λ g m. (J g m).head) ph;
    }

-- ---- what is left out

module _ (fits : List ℕ) (p s : ℕ) (words : List ℕ) (spare : ℕ) (E : Exact fits p s true spare) where
  -- all stations are spare
  pub settles_all : spare ≡ s → Settles fits p s words
  settles_all e = record { some = E.some.holds refl; spare = λ x y i _ _. ((E.left refl x).holds (ap (λ (w : ℕ). has w x) e ∙ i)).1 }

  -- all that are in the word of a station of s, the members of w
  pub settles_some : (w : ℕ) → s < 2 ^ 64 → spare < 2 ^ 64 → w ≡ set_of 64 (λ k. any 64 (λ i. has s i && has (row words i) k))
      → bit_and (bit_and w s) ((2 ^ 64 - 1) - spare) ≡ 0 → Settles fits p s words
  unfolding leg
  settles_some w hs hf e z =
      record {
        some = E.some.holds refl;
        spare = λ x y i j l.
            ((E.left refl x).holds (diff_none 64 (bit_and w s) spare (omega (arith, and_le_r w s)) hf z x (has_and w s x ∙ and_intro (entered x y i j l) i))).1;
      }
    where
      entered : (x y : ℕ) → has s x ≡ true → has s y ≡ true → leg words y x ≡ true → has w x ≡ true
      entered x y i j l =
          word_has 64 _ e x (member_below 64 s x hs i) ∙ any_intro 64 (λ k. has s k && has (row words k) x) y (member_below 64 s y hs j) (and_intro j l)

-- ---- all stations

-- p leads to each station already, or by way of one of the level s
pub leads_all : (words : List ℕ) (n seen s : ℕ) (r : Led) (more all : ℕ) → n ≤ 64
    → more ≡ grow 64 64 (leg words) (bit_and (bit_or seen s) ((2 ^ 64 - 1) - r.all)) (bit_and r.beyond s) → all ≡ set_of 64 (λ j. ltb j n) → bit_or r.all more ≡ all
    → (wide p : ℕ) → Part seen wide → Part s wide → Reaches words wide p r → (x : ℕ) → x < n → Along words wide p x
leads_all words n seen s r more all h grows full e wide p in_seen in-s R x l =
    both_elim (Along words wide p) r.all more R.walked
    (λ y i. grown_along words room wide p (bit_and r.beyond s) inside (edge_along R s in-s) y (ap (λ (w : ℕ). has w y) (sym grows) ∙ i))
    x (ap (λ (w : ℕ). has w x) e ∙ word_has 64 _ full x (omega arith) ∙ lt-ltb x n l)
  where
    room : ℕ
    room = bit_and (bit_or seen s) ((2 ^ 64 - 1) - r.all)

    inside : Part room wide
    inside y i = both_elim (λ z. has wide z ≡ true) seen s in_seen in-s y (part_l (bit_or seen s) ((2 ^ 64 - 1) - r.all) y i)
