-- The records one after another: what the first i records gave, and how a sheet goes on from there. Assumes nothing.
use mathlib.Core.Path.{◌≡◌, refl, ap, ◌∙◌, subst}
use mathlib.Core.List.{List, [], ◌∷◌, ◌++◌, map, map-append}
use Prim.Native.Nat.{ℕ, zero, suc, ◌+◌, ◌-◌, ◌^◌, ◌≤◌, ◌<◌}
use native.Mathlib.Nat.{zero-add, suc-add}
use native.Mathlib.Numerals.{add-one}
use native.Mathlib.Omega.{arith}
use lib.Bits.{and_le_l}
use lib.Dec.{ltb}
use lib.Pow.{pow_pos}
use lib.ListN.{length, get_or, take, drop, set, replicate, get_or-replicate, length-drop, length-append, length-set, drop_of_length-le}
use lib.Seq.{drop-cons, drop-drop, get_or-set_other, take-suc-set}
use Rattle.circuit.specs.declared.card.Answer.{Answer}
use Rattle.circuit.specs.declared.card.Answer.TheVariants.{Overhang}
use Rattle.bitset.specs.Sets.{set_of}
use Rattle.bitset.proofs.MachineLaws.{full_set_of}
use Rattle.circuit.specs.Legs.{table_of}
use Rattle.circuit.specs.inner.Tables.{Square}
use Rattle.circuit.specs.inner.Columns.{Corner}
use Rattle.sheet.specs.Layout.{Entry, free, Page, given}
use Rattle.sheet.specs.Open.{Got, got, fault, ◌then◌, read_entry, read_entries, read_end, read_rest, refused, taken, opened}
use Rattle.sheet.specs.inner.Reader.{GotAt, FaultAt, next_of, prev_of, EmptyFrom, legal}
use Rattle.sheet.proofs.TableLaws.{barred_of, mapped_at, legal_given}

-- ---- i records, then k records

module _ (k n : ℕ) where
  -- the entries es, and those of k records more
  abbrev more : List Entry → List ℕ → Got (List Entry)
  more es r = read_entries k n r then λ fs q. got (es ++ fs) q

  cons_more : (e : Entry) (es : List Entry) (g : Got (List Entry))
      → ((g then λ fs q. got (es ++ fs) q) then λ fs q. got (e ∷ fs) q) ≡ (g then λ fs q. got (e ∷ es ++ fs) q)
  cons_more e es (got fs q) = refl
  cons_more e es (fault a q) = refl

  read_add : (i : ℕ) (s : List ℕ) → read_entries (i + k) n s ≡ (read_entries i n s then more)
  unfolding read_entries
  read_add zero s = rw zero-add (none (read_entries k n s))
    where
      none : (g : Got (List Entry)) → g ≡ (g then λ fs q. got fs q)
      none (got fs q) = refl
      none (fault a q) = refl
  read_add (suc i) s = rw suc-add (go (read_add i) (read_entry n s))
    where
      each : (e : Entry) (g : Got (List Entry)) → ((g then more) then λ fs q. got (e ∷ fs) q) ≡ ((g then λ es r. got (e ∷ es) r) then more)
      each e (got es r) = cons_more e es (read_entries k n r)
      each e (fault a r) = refl

      go : ((r : List ℕ) → read_entries (i + k) n r ≡ (read_entries i n r then more)) → (g : Got Entry)
          → (g then λ e r. read_entries (i + k) n r then λ es q. got (e ∷ es) q) ≡ ((g then λ e r. read_entries i n r then λ es q. got (e ∷ es) q) then more)
      go h (got e r) = rw (h r) (each e (read_entries i n r))
      go h (fault a r) = refl

module _ (n i : ℕ) (s r : List ℕ) (es : List Entry) (before : read_entries i n s ≡ got es r) where
  -- one record more
  read_more : (e : Entry) (q : List ℕ) → read_entry n r ≡ got e q → read_entries (i + 1) n s ≡ got (es ++ (e ∷ [])) q
  unfolding read_entries
  read_more e q h = read_add 1 n i s ∙ rw (before, h)

  -- a fault stops the reading
  pub read_fault : (a : Answer) (q : List ℕ) → i < n → read_entry n r ≡ fault a q → read_entries n n s ≡ fault a q
  unfolding read_entries
  read_fault a q l h =
      let k : n ≡ i + suc (n - (i + 1)) = omega arith in
      ap (λ (m : ℕ). read_entries m n s) k ∙ (read_add (suc (n - (i + 1))) n i s ∙ rw (before, h))

-- ---- the loop over the records

-- the first i records of the sheet s were read and end at `at`, and what they say is in the words
pub record SoFar (n : ℕ) (s next barred : List ℕ) (at i : ℕ) : Type 0 where
  pub entries : List Entry
  pub count : length entries ≡ i
  pub is : read_entries i n (drop 1 s) ≡ got entries (drop at s)
  pub within : at ≤ length s
  pub lengths : (length next ≡ 64) × (length barred ≡ 64)
  pub follow : take i next ≡ map next_of entries
  pub bars : take i barred ≡ map (barred_of n) entries
  pub empty : EmptyFrom i next
  pub beyond : EmptyFrom i barred

none_yet : EmptyFrom 0 (replicate 64 0)
none_yet k _ l = get_or-replicate 64 k 0 0 l

pub so_far_none : (n : ℕ) (s : List ℕ) → 1 ≤ length s → SoFar n s (replicate 64 0) (replicate 64 0) 1 0
unfolding read_entries
so_far_none n s l =
    record { entries = []; count = refl; is = refl; within = l; lengths = (refl, refl); follow = refl; bars = refl; empty = none_yet; beyond = none_yet }

-- the words beyond one that is stored
empty_more : {i : ℕ} (t : List ℕ) (v : ℕ) → EmptyFrom i t → EmptyFrom (i + 1) (set t i v)
empty_more {i} t v h k g l = get_or-set_other t i k v 0 (λ e. omega arith) ∙ h k (omega arith) l

-- the word of one record more
store : (f : Entry → ℕ) (es : List Entry) (e : Entry) (l : List ℕ) (i v : ℕ) → i < length l → take i l ≡ map f es → v ≡ f e
    → take (i + 1) (set l i v) ≡ map f (es ++ (e ∷ []))
store f es e l i v h p q = rw (add-one, take-suc-set l i v h, p, q, map-append)

module _ {n : ℕ} {s next barred : List ℕ} {at i : ℕ} (h : SoFar n s next barred at i) where
  pub so_far_more : {len : ℕ} (p : GotAt (read_entry n (drop at s)) (drop at s) len) (v w : ℕ) → v ≡ next_of p.value → w ≡ barred_of n p.value → i < 64
      → SoFar n s (set next i v) (set barred i w) (at + len) (i + 1)
  so_far_more {len} p v w ev ew l =
      record {
        entries = h.entries ++ (p.value ∷ []);
        count = length-append h.entries (p.value ∷ []) ∙ omega (arith, h.count);
        is = read_more n i (drop 1 s) (drop at s) h.entries h.is p.value (drop (at + len) s) (p.is ∙ ap (got p.value) (drop-drop len at s));
        within = omega (arith, h.within, p.within, length-drop at s);
        lengths = (length-set next i v ∙ h.lengths.0, length-set barred i w ∙ h.lengths.1);
        follow = store next_of h.entries p.value next i v (omega (arith, h.lengths.0)) h.follow ev;
        bars = store (barred_of n) h.entries p.value barred i w (omega (arith, h.lengths.1)) h.bars ew;
        empty = empty_more next v h.empty;
        beyond = empty_more barred w h.beyond;
      }

  pub so_far_fault : {a : Answer} {k : ℕ} (limit : ℕ) → i < n → FaultAt (read_entry n (drop at s)) (drop at s) a k
      → opened (length s) limit (read_rest n (drop 1 s)) ≡ refused a (at + k)
  unfolding opened
  so_far_fault {a} {k} limit l f =
      let e : length s - length (drop k (drop at s)) ≡ at + k = rw (length-drop k (drop at s), length-drop at s) (omega (arith, h.within, f.within, length-drop at s)) in
      rw (read_fault n i (drop 1 s) (drop at s) h.entries h.is a (drop k (drop at s)) l f.is) (ap (refused a) e)

  pub so_far_all : i ≡ n → SoFar n s next barred at n
  so_far_all e = subst (λ (k : ℕ). SoFar n s next barred at k) e h

module _ {n : ℕ} {s next barred : List ℕ} {at : ℕ} (h : SoFar n s next barred at n) where
  abbrev page : Page
  page = record { stations = n; entries = h.entries }

  -- the barred stations are below n, and barred by stations below n
  pub so_far_corner : n ≤ 64 → Corner n barred
  so_far_corner le = record { len = h.lengths.1; square = square; beyond = h.beyond }
    where
      square : Square n barred
      square k l =
          let all = set_of 64 (λ j. ltb j n) in
          let e = get_or h.entries k free in
          let rest = (2 ^ 64 - 1) - prev_of e in
          omega (arith, mapped_at (barred_of n) h.entries barred n h.count h.bars k l, and_le_l all rest, full_set_of 64 n le, pow_pos n)

  pub so_far_over : (limit : ℕ) → at < length s → opened (length s) limit (read_rest n (drop 1 s)) ≡ refused Overhang at
  unfolding opened read_end
  so_far_over limit l =
      let e : length s - suc (length (drop (suc at) s)) ≡ at = rw length-drop (omega arith) in
      rw (h.is, drop-cons s at 0 l) (ap (refused Overhang) e)

  pub so_far_whole : (limit : ℕ) → length s ≤ at → n ≤ 64
      → opened (length s) limit (read_rest n (drop 1 s)) ≡ taken n (table_of n (legal next barred)) limit
  unfolding opened read_end
  so_far_whole limit l le =
      let t : table_of n (legal next barred) ≡ table_of n (given page) =
      legal_given page next barred le (mapped_at next_of h.entries next n h.count h.follow) (mapped_at (barred_of n) h.entries barred n h.count h.bars) in
      rw (h.is, drop_of_length-le s l, t)
