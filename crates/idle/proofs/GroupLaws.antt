-- What a pivot leads to, in a room that is widened: walks along the words of stations, of sets that are grown, and of the groups that the idle test keeps.
-- Assumes nothing.
use mathlib.Core.Path.{◌≡◌, sym, ap, ◌∙◌, subst}
use mathlib.Core.Logic.{⊎_elim}
use mathlib.Core.Bool.{true, false, not}
use mathlib.Core.List.{List}
use Prim.Native.Nat.{ℕ, ◌+◌, ◌-◌, ◌^◌, ◌<◌}
use native.Mathlib.Omega.{arith}
use lib.Bits.{bit_and, bit_or}
use lib.ListN.{length, set}
use lib.Seq.{get_or-set_same, get_or-set_other}
use Rattle.bitset.specs.Sets.{has}
use Rattle.bitset.proofs.BoolLaws.{not_both, cases, and_intro, and_l, and_r, or_l, or_r, or_cases}
use Rattle.bitset.proofs.QuantLaws.{below?}
use Rattle.bitset.proofs.HasLaws.{has_and, has_or, member_below}
use Rattle.bitset.proofs.SetLaws.{has_diff, has_self, has_one}
use Rattle.circuit.specs.Legs.{leg}
use Rattle.idle.specs.declared.group.Group.{Group}
use Rattle.idle.specs.declared.groups.Groups.{Groups}
use Rattle.idle.specs.declared.ways.Ways.{Ways}
use Rattle.separator.specs.declared.reach.Led.{Led}
use Rattle.separator.specs.Choice.{stay, step}
use Rattle.separator.specs.Components.{grow}
use Rattle.separator.specs.inner.Reach.{entered, LedFrom}
use Rattle.idle.specs.inner.Groups.{Part, Within, Along, LedTo, Reaches, GroupIn, GroupOf, group_at, GroupingIn}
use Rattle.idle.proofs.WayLaws.{rows_within, cols_within}
use Rattle.separator.proofs.ComponentLaws.{grow_keeps}
use Rattle.separator.proofs.GrowLaws.{grow_all}
use Rattle.separator.proofs.LedLaws.{entered_elim}
use Rattle.separator.proofs.WalkLaws.{walk_map}

-- ---- words as sets

pub part_l : (a b : ℕ) → Part (bit_and a b) a
part_l a b x e = and_l (has a x) (has b x) (sym (has_and a b x) ∙ e)

pub part_r : (a b : ℕ) → Part (bit_and a b) b
part_r a b x e = and_r (has a x) (has b x) (sym (has_and a b x) ∙ e)

pub part_or_l : (a b : ℕ) → Part a (bit_or a b)
part_or_l a b x e = has_or a b x ∙ or_l (has b x) e

pub part_or_r : (a b : ℕ) → Part b (bit_or a b)
part_or_r a b x e = has_or a b x ∙ or_r (has a x) e

-- what holds of the stations of both words holds of those of their union
pub both_elim : (P : ℕ → Type 0) (a b : ℕ) → ((x : ℕ) → has a x ≡ true → P x) → ((x : ℕ) → has b x ≡ true → P x) → (x : ℕ) → has (bit_or a b) x ≡ true → P x
both_elim P a b f g x e = ⊎_elim (f x) (g x) (or_cases (has a x) (has b x) (sym (has_or a b x) ∙ e))

-- ---- a wider room keeps what is known

pub along_wider : (words : List ℕ) (room wide : ℕ) {p x : ℕ} → Part room wide → Along words room p x → Along words wide p x
along_wider words room wide part w = walk_map (λ i j _ _ r. r) part w

-- and so do words with more in them
pub along_within : (words nbr : List ℕ) (room : ℕ) {p x : ℕ} → Within words nbr → Along words room p x → Along nbr room p x
along_within words nbr room within w = walk_map (λ i j _ _ r. within i j r) (λ i e. e) w

pub reaches_wider : {words : List ℕ} {room wide p : ℕ} {r : Led} → Reaches words room p r → Part room wide → Reaches words wide p r
reaches_wider {words} {room} {wide} R part =
    record {
      walked = λ x e. along_wider words room wide part (R.walked x e);
      led = λ x e. let (y, w, l) = R.led x e in (y, along_wider words room wide part w, l);
    }

pub group_wider : {rows cols nbr : List ℕ} {room wide : ℕ} {g : Group} → GroupIn rows cols nbr room g → Part room wide → GroupIn rows cols nbr wide g
group_wider {nbr = nbr} {room = room} {wide = wide} G part =
    record {
      pivot = G.pivot;
      ahead = reaches_wider G.ahead part;
      back = reaches_wider G.back part;
      hangs = λ x e. along_wider nbr room wide part (G.hangs x e);
    }

-- ---- from a start that p leads to

module _ (words : List ℕ) (room wide p start : ℕ) (part : Part room wide) (from : (x : ℕ) → has start x ≡ true → Along words wide p x) where
  pub grown_along : (x : ℕ) → has (grow 64 64 (leg words) room start) x ≡ true → Along words wide p x
  grown_along = grow_all 64 (leg words) room (Along words wide p) (λ a b _ _ r d w. step w r (part b d)) 64 start from

  pub reaches_on : {r : Led} → LedFrom words room start r → Reaches words wide p r
  reaches_on {r} l = record { walked = walked; led = led }
    where
      walked : (x : ℕ) → has r.all x ≡ true → Along words wide p x
      walked x e = grown_along x (ap (λ (w : ℕ). has w x) (sym l.all) ∙ e)

      led : (x : ℕ) → has r.beyond x ≡ true → LedTo words wide p x
      led x e = let (d, _, h, q) = entered_elim words r.all x (ap (λ (w : ℕ). has w x) (sym l.beyond) ∙ e) in (d, walked d h, q)

-- from p itself
pub reaches_start : {words : List ℕ} {room wide p : ℕ} {r : Led} → LedFrom words room (2 ^ p) r → Part room wide → has wide p ≡ true → Reaches words wide p r
reaches_start {words} {room} {wide} {p} l part h =
    reaches_on words room wide p (2 ^ p) part (λ x e. subst (Along words wide p) (sym (has_one p x e)) (stay h)) l

-- from p on, to the stations of a level that are in the word of one that it leads to
pub edge_along : {words : List ℕ} {wide p : ℕ} {r : Led} → Reaches words wide p r → (level : ℕ) → Part level wide
    → (x : ℕ) → has (bit_and r.beyond level) x ≡ true → Along words wide p x
edge_along {r = r} R level part x e = let (y, w, l) = R.led x (part_l r.beyond level x e) in step w l (part x (part_r r.beyond level x e))

-- on from the stations of a level
pub reaches_more : {words : List ℕ} (room level : ℕ) {wide p : ℕ} {from more : Led} → Reaches words wide p from → Part room wide → Part level wide
    → LedFrom words (bit_and room ((2 ^ 64 - 1) - from.all)) (bit_and from.beyond level) more
    → Reaches words wide p (record { all = bit_or from.all more.all; beyond = bit_or from.beyond more.beyond })
reaches_more {words} room level {wide} {p} {from} {more} R in-room in-level l =
    record {
      walked = both_elim (Along words wide p) from.all more.all R.walked M.walked;
      led = both_elim (LedTo words wide p) from.beyond more.beyond R.led M.led;
    }
  where
    M : Reaches words wide p more
    M = reaches_on words (bit_and room ((2 ^ 64 - 1) - from.all)) wide p (bit_and from.beyond level)
        (λ x e. in-room x (part_l room ((2 ^ 64 - 1) - from.all) x e)) (edge_along R level in-level) l

-- a set with what hangs together with it in a room
pub hanging_along : (nbr : List ℕ) (room wide p set edge : ℕ) {near r : ℕ} → Part room wide → ((x : ℕ) → has set x ≡ true → Along nbr wide p x)
    → near ≡ entered nbr (bit_and set edge) → r ≡ grow 64 64 (leg nbr) room (bit_and near room)
    → (x : ℕ) → has (bit_or set r) x ≡ true → Along nbr wide p x
hanging_along nbr room wide p set edge {near} {r} part from en er =
    both_elim (Along nbr wide p) set r from (λ x e.
    grown_along nbr room wide p (bit_and near room) part first x (ap (λ (w : ℕ). has w x) (sym er) ∙ e))
  where
    first : (x : ℕ) → has (bit_and near room) x ≡ true → Along nbr wide p x
    first x e =
        let (d, _, h, q) = entered_elim nbr (bit_and set edge) x (ap (λ (w : ℕ). has w x) (sym en) ∙ part_l near room x e) in
        step (from d (part_l set edge d h)) q (part x (part_r near room x e))

-- ---- groups

module _ (w : Ways) where
  -- what a pivot leads to, and what leads to it, hangs together with it
  module _ {room p : ℕ} {ahead back : Led} (A : Reaches w.net.now.rows room p ahead) (B : Reaches w.net.now.cols room p back) where
    ahead_hangs : (x : ℕ) → has ahead.all x ≡ true → Along w.nbr.now room p x
    ahead_hangs x e = along_within w.net.now.rows w.nbr.now room (rows_within w) (A.walked x e)

    back_hangs : (x : ℕ) → has back.all x ≡ true → Along w.nbr.now room p x
    back_hangs x e = along_within w.net.now.cols w.nbr.now room (cols_within w) (B.walked x e)

    -- as the code finds it, of a new group and of one that there was
    pub new_hangs : (x : ℕ) → has (bit_or ahead.all back.all) x ≡ true → Along w.nbr.now room p x
    new_hangs = both_elim (Along w.nbr.now room p) ahead.all back.all ahead_hangs back_hangs

    pub old_hangs : (part : ℕ) → ((x : ℕ) → has part x ≡ true → Along w.nbr.now room p x)
        → (x : ℕ) → has (bit_or (bit_or part ahead.all) back.all) x ≡ true → Along w.nbr.now room p x
    old_hangs part h =
        both_elim (Along w.nbr.now room p) (bit_or part ahead.all) back.all (both_elim (Along w.nbr.now room p) part ahead.all h ahead_hangs) back_hangs

  -- the group of the station p of `left`
  module _ {left : ℕ} (p : ℕ) {new : Group} (a : LedFrom w.net.now.rows left (2 ^ p) new.ahead) (b : LedFrom w.net.now.cols left (2 ^ p) new.back)
      (c : new.part ≡ grow 64 64 (leg w.nbr.now) left (bit_or new.ahead.all new.back.all)) where
    pub started_group : (room : ℕ) → Part left room → has left p ≡ true → GroupOf w room new
    started_group room part h =
        let A = reaches_start a part (part p h) in
        let B = reaches_start b part (part p h) in
        record {
          pivot = p;
          ahead = A;
          back = B;
          hangs = λ x e.
              grown_along w.nbr.now left room p (bit_or new.ahead.all new.back.all) part (new_hangs A B) x (ap (λ (v : ℕ). has v x) (sym c) ∙ e);
        }

    -- has its pivot
    pub started_has : p < 64 → has new.part p ≡ true
    started_has l =
        ap (λ (v : ℕ). has v p) c
        ∙ grow_keeps 64 (leg w.nbr.now) left 64 (bit_or new.ahead.all new.back.all) p l
        (has_or new.ahead.all new.back.all p
        ∙ or_l (has new.back.all p) (ap (λ (v : ℕ). has v p) a.all ∙ grow_keeps 64 (leg w.net.now.rows) left 64 (2 ^ p) p l (has_self p)))

-- ---- the first groups of an array

-- one more, at the place `count`
pub grouping_more : {rows cols nbr : List ℕ} {g more : Groups} {new : Group} → GroupingIn rows cols nbr g → GroupIn rows cols nbr g.room new
    → length g.groups ≡ 32 → g.count < 32
    → more.groups ≡ set g.groups g.count new → more.count ≡ g.count + 1 → more.room ≡ g.room → more.left ≡ bit_and g.left ((2 ^ 64 - 1) - new.part)
    → g.left < 2 ^ 64 → new.part < 2 ^ 64 → GroupingIn rows cols nbr more
grouping_more {rows} {cols} {nbr} {g} {more} {new} Q G size few stored one same taken hl hp = record { each = each; covers = covers; inside = inside }
  where
    kept : (k : ℕ) → k < g.count → group_at more.groups k ≡ group_at g.groups k
    kept k l = ap (λ (gs : List Group). group_at gs k) stored ∙ get_or-set_other g.groups g.count k new _ (λ q. omega arith)

    last : group_at more.groups g.count ≡ new
    last = ap (λ (gs : List Group). group_at gs g.count) stored ∙ get_or-set_same g.groups g.count new _ (omega (arith, size))

    each : (k : ℕ) → k < more.count → GroupIn rows cols nbr more.room (group_at more.groups k)
    each k l =
        subst (λ (room : ℕ). GroupIn rows cols nbr room (group_at more.groups k)) (sym same)
        (⊎_elim
        (λ m. subst (GroupIn rows cols nbr g.room) (sym (kept k m)) (Q.each k m))
        (λ m.
        let q : g.count ≡ k = omega (arith, one) in
        subst (λ (h : ℕ). GroupIn rows cols nbr g.room (group_at more.groups h)) q (subst (GroupIn rows cols nbr g.room) (sym last) G))
        (below? k g.count))

    without : (x : ℕ) → has more.left x ≡ has (bit_and g.left ((2 ^ 64 - 1) - new.part)) x
    without x = ap (λ (v : ℕ). has v x) taken

    inside : Part more.left more.room
    inside x e = ap (λ (v : ℕ). has v x) same ∙ Q.inside x (part_l g.left ((2 ^ 64 - 1) - new.part) x (sym (without x) ∙ e))

    covers : (x : ℕ) → has more.room x ≡ true → has more.left x ≡ false → (k : ℕ) × (k < more.count) × (has (group_at more.groups k).part x ≡ true)
    covers x e z =
        ⊎_elim taken_in
        (λ f. let (k, m, h) = Q.covers x (ap (λ (v : ℕ). has v x) (sym same) ∙ e) f in (k, omega (arith, one), ap (λ (k : Group). has k.part x) (kept k m) ∙ h))
        (cases (has g.left x))
      where
        taken_in : has g.left x ≡ true → (k : ℕ) × (k < more.count) × (has (group_at more.groups k).part x ≡ true)
        taken_in f =
            ⊎_elim
            (λ h. (g.count, omega (arith, one), ap (λ (k : Group). has k.part x) last ∙ h))
            (λ h. absurd (not_both (has_diff 64 g.left new.part x hp (member_below 64 g.left x hl f) ∙ and_intro f (ap not h)) (sym (without x) ∙ z)))
            (cases (has new.part x))
