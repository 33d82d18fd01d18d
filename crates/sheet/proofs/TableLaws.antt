-- The table of a page: its rows as the code puts them together. Assumes nothing.
use mathlib.Core.Path.{◌≡◌, refl, sym, ap, ap₂, ◌∙◌}
use mathlib.Core.Logic.{⊎_elim}
use mathlib.Core.Bool.{Bool, true, false, not, cond, ◌&&◌}
use mathlib.Core.List.{List, [], ◌∷◌, map}
use Prim.Native.Nat.{ℕ, zero, suc, ◌-◌, ◌^◌, ◌≤◌, ◌<◌}
use native.Mathlib.Nat.{lt_of_lt_of_le, not-suc-le-zero, le_of_suc-le-suc}
use native.Mathlib.Omega.{arith}
use lib.Bits.{bit_and, and_le_l, and_zero_l}
use lib.Dec.{eqb, ltb}
use lib.ListN.{length, get_or, take}
use lib.Pow.{pow_mono}
use lib.Seq.{get_or-take}
use borrow.Author.Tests.{lt-ltb, le-ltb}
use Rattle.bitset.specs.Sets.{has, set_of}
use Rattle.bitset.proofs.BoolLaws.{cond_true, cond_false, taut3}
use Rattle.bitset.proofs.QuantLaws.{below?}
use Rattle.bitset.proofs.HasLaws.{has_and, has_not}
use Rattle.bitset.proofs.SetLaws.{set_of_lt, has_set_of, eq_set_of}
use Rattle.bitset.proofs.UptoLaws.{Changed, changed_end, get_d_upto, upto_cong}
use Rattle.circuit.specs.Legs.{columns, leg, col, table_of, full_table, capped}
use Rattle.circuit.proofs.LegsLaws.{full_out, table_of_ext, capped_small, full_is}
use Rattle.sheet.specs.Layout.{Entry, Page, free, allows, fixes, entry_at, given}
use Rattle.circuit.specs.inner.Tables.{full_row}
use Rattle.sheet.specs.inner.Reader.{next_of, prev_of, EmptyFrom, legal}

-- row i of the table
abbrev legal_row : ℕ → List ℕ → List ℕ → ℕ → ℕ
legal_row n next barred i = cond (ltb i n) (set_of n (legal next barred i)) 0

module _ (n i : ℕ) (next barred : List ℕ) (le : n ≤ 64) (h : i < 64) where
  -- the stations that i may not come before
  abbrev bars : ℕ
  bars = get_or (columns n barred) i 0

  bars_is : bars ≡ set_of n (λ j. has (get_or barred j 0) i)
  unfolding col leg
  bars_is = get_d_upto 64 (col n barred) 0 i h

  kept : (j : ℕ) → j < n → has ((2 ^ 64 - 1) - bars) j ≡ not (has (get_or barred j 0) i)
  kept j l =
      rw bars_is
      (has_not 64 (set_of n (λ j. has (get_or barred j 0) i)) j (lt_of_lt_of_le (set_of_lt n _) (pow_mono le)) (lt_of_lt_of_le l le)
      ∙ ap not (has_set_of n (λ j. has (get_or barred j 0) i) j l))

  -- the stations that may follow i
  abbrev allowed : ℕ
  allowed = bit_and (get_or next i 0) ((2 ^ 64 - 1) - bars)

  row_inside : bit_and (set_of n (λ j. not (eqb i j))) allowed ≡ set_of n (legal next barred i)
  row_inside =
      let own = set_of n (λ j. not (eqb i j)) in
      eq_set_of n (bit_and own allowed) (legal next barred i) (omega (arith, and_le_l own allowed, set_of_lt n (λ j. not (eqb i j)))) (λ j k.
      has_and own allowed j
      ∙ ap₂ (λ (a b : Bool). a && b) (has_set_of n (λ j. not (eqb i j)) j k)
      (has_and (get_or next i 0) ((2 ^ 64 - 1) - bars) j ∙ ap (λ (b : Bool). has (get_or next i 0) j && b) (kept j k)))

  row_is : bit_and (full_row n i) allowed ≡ legal_row n next barred i
  unfolding full_row
  row_is =
      ⊎_elim
      (λ (l : i < n).
      ap (λ (w : ℕ). bit_and w allowed) (cond_true (set_of n (λ j. not (eqb i j))) 0 (lt-ltb i n l)) ∙ row_inside ∙ sym (cond_true (set_of n (legal next barred i)) 0 (lt-ltb i n l)))
      (λ (g : n ≤ i).
      ap (λ (w : ℕ). bit_and w allowed) (full_out n i g) ∙ and_zero_l allowed ∙ sym (cond_false (set_of n (legal next barred i)) 0 (le-ltb i n g)))
      (below? i n)

-- row i of the full table, as the code is handed it
pub full_row_at : {rows : List ℕ} (n i : ℕ) → n ≤ 64 → i < 64 → rows ≡ full_table (capped n) → get_or rows i 0 ≡ full_row n i
full_row_at n i le h e =
    ap (λ (l : List ℕ). get_or l i 0) (e ∙ ap full_table (capped_small n le) ∙ sym (full_is n)) ∙ get_d_upto 64 (full_row n) 0 i h

-- `full.rows[i] & (next[i] & !cols[i])`
abbrev pub struck_row : ℕ → List ℕ → List ℕ → ℕ → ℕ
struck_row n next cols i = bit_and (full_row n i) (bit_and (get_or next i 0) ((2 ^ 64 - 1) - get_or cols i 0))

-- the first n rows, struck; those beyond are empty before and after
pub struck : {cols rows : List ℕ} {i : ℕ} (n : ℕ) (next barred : List ℕ) → n ≤ 64 → n ≤ i → cols ≡ columns n barred → EmptyFrom n next
    → Changed 64 (struck_row n next cols) next i rows → rows ≡ table_of n (legal next barred)
unfolding table_of
struck {cols} n next barred le g ec empty h =
    changed_end 0 h (λ k m l. beyond k (omega arith) l) ∙ rw ec (upto_cong 64 (struck_row n next (columns n barred)) (legal_row n next barred) (λ i l. row_is n i next barred le l))
  where
    beyond : (k : ℕ) → n ≤ k → k < 64 → get_or next k 0 ≡ struck_row n next cols k
    beyond k m l = empty k m l ∙ sym (rw (full_out n k m) (and_zero_l (bit_and (get_or next k 0) ((2 ^ 64 - 1) - get_or cols k 0))))

-- ---- the words of a page

-- the stations below n that may not come before the station of a record
abbrev pub barred_of : ℕ → Entry → ℕ
barred_of n e = bit_and (set_of 64 (λ j. ltb j n)) ((2 ^ 64 - 1) - prev_of e)

get_d_map : (f : Entry → ℕ) (es : List Entry) (k : ℕ) → k < length es → get_or (map f es) k 0 ≡ f (get_or es k free)
get_d_map f [] k l = absurd (not-suc-le-zero l)
get_d_map f (e ∷ es) zero l = refl
get_d_map f (e ∷ es) (suc k) l = get_d_map f es k (le_of_suc-le-suc l)

-- a word that the loop stored
pub mapped_at : (f : Entry → ℕ) (es : List Entry) (l : List ℕ) (n : ℕ) → length es ≡ n → take n l ≡ map f es → (k : ℕ) → k < n → get_or l k 0 ≡ f (get_or es k free)
mapped_at f es l n c e k h = sym (get_or-take n l k 0 h) ∙ ap (λ (t : List ℕ). get_or t k 0) e ∙ get_d_map f es k (omega arith)

-- the leg rule, in the order of the code's masks
regroup : (a b c d : Bool) → a && (b && d && not (not c)) ≡ a && b && c && d
regroup true b c d = taut3 (λ b c d. b && d && not (not c)) (λ b c d. b && c && d) refl b c d
regroup false b c d = refl

module _ (p : Page) (next barred : List ℕ) (le : p.stations ≤ 64)
    (follow : (k : ℕ) → k < p.stations → get_or next k 0 ≡ next_of (get_or p.entries k free))
    (bars : (k : ℕ) → k < p.stations → get_or barred k 0 ≡ barred_of p.stations (get_or p.entries k free))
  where
    leg_given : (i j : ℕ) → i < p.stations → j < p.stations → legal next barred i j ≡ given p i j
    unfolding given entry_at
    leg_given i j hi hj =
        let e = get_or p.entries i free in
        let f = get_or p.entries j free in
        let passes : ℕ → Bool = λ k. allows e.next k && fixes e.fixed k in
        let here : has (get_or next i 0) j ≡ passes j = ap (λ (w : ℕ). has w j) (follow i hi) ∙ has_set_of 64 passes j (lt_of_lt_of_le hj le) in
        let there : has (get_or barred j 0) i ≡ not (allows f.prev i) =
        ap (λ (w : ℕ). has w i) (bars j hj) ∙ has_and (set_of 64 (λ k. ltb k p.stations)) ((2 ^ 64 - 1) - prev_of f) i
        ∙ ap (λ (b : Bool). b && has ((2 ^ 64 - 1) - prev_of f) i) (has_set_of 64 (λ k. ltb k p.stations) i (lt_of_lt_of_le hi le) ∙ lt-ltb i p.stations hi)
        ∙ (has_not 64 (prev_of f) i (set_of_lt 64 (allows f.prev)) (lt_of_lt_of_le hi le) ∙ ap not (has_set_of 64 (allows f.prev) i (lt_of_lt_of_le hi le))) in
        rw (here, there) (regroup (not (eqb i j)) (allows e.next j) (allows f.prev i) (fixes e.fixed j))

    pub legal_given : table_of p.stations (legal next barred) ≡ table_of p.stations (given p)
    legal_given = table_of_ext p.stations (legal next barred) (given p) leg_given
