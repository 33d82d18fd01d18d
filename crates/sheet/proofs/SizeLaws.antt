-- How long a sheet is, and that its first 1,154 bytes decide what opening hands back. Assumes nothing.
use mathlib.Core.Path.{◌≡◌, refl, sym, ap, ◌∙◌}
use mathlib.Core.Bool.{Bool, true, false, cond}
use mathlib.Core.List.{List, [], ◌∷◌, ◌++◌}
use mathlib.Core.Option.{some}
use Prim.Native.Nat.{ℕ, zero, suc, ◌+◌, ◌-◌, ◌*◌, ◌^◌, ◌≤◌, ◌<◌}
use native.Mathlib.Decide.{dec_le}
use native.Mathlib.Nat.{not-suc-le-zero, le_of_suc-le-suc}
use native.Mathlib.Omega.{arith}
use lib.Dec.{leb}
use lib.ListN.{length, take, drop, replicate, length-append, length-drop, length-replicate, take-append-drop}
use lib.Seq.{take_all, length-take-le, drop-append-le}
use borrow.Author.Tests.{le-ltb}
use Rattle.bitset.specs.Sets.{has, outside}
use Rattle.bitset.proofs.BoolLaws.{cond_elim}
use Rattle.circuit.specs.Card.{card}
use Rattle.circuit.specs.State.{blank}
use Rattle.circuit.specs.declared.state.Work.{Work}
use Rattle.sheet.specs.declared.Opened.{Opened}
use Rattle.bitset.proofs.OutsideLaws.{inside}
use Rattle.sheet.specs.Layout.{Entry, Page, bytes, entry_bytes, entries_bytes, bytes_of, EntryFits, WellFormed}
use Rattle.bitset.specs.Upto.{Each}
use Rattle.sheet.specs.Open.{Got, got, fault, ◌then◌, little, read_set, read_fixed, read_fields, read_entry, read_entries, read_end, read_rest, read_page, refused, opened, open_call, TakenSheet}
use Rattle.sheet.specs.Sizes.{sheet_most, LongestSheet}
use Rattle.sheet.proofs.ReadLaws.{length_bytes}
use Rattle.sheet.proofs.GrammarLaws.{sheet_taken, taken_sheet}

-- ---- bytes that follow change nothing but the rest

-- with t behind the input the reader answers the same, and t stands behind the rest; the rest after a reading is P
abbrev Before : {A : Type 0} → List ℕ → (List ℕ → Type 0) → Got A → Got A → Type 0
Before t P (got a r) g = (g ≡ got a (r ++ t)) × P r
Before t P (fault c r) g = g ≡ fault c (r ++ t)

-- at least m bytes
abbrev Left : ℕ → List ℕ → Type 0
Left m r = m ≤ length r

module _ (t : List ℕ) where
  before_then : {A B : Type 0} (P Q : List ℕ → Type 0) (g h : Got A) (f : A → List ℕ → Got B)
      → Before t P g h → ((a : A) (r : List ℕ) → P r → Before t Q (f a r) (f a (r ++ t))) → Before t Q (g then f) (h then f)
  before_then P Q (got a r) h f b k = rw b.0 (k a r b.1)
  before_then P Q (fault c r) h f b k = rw b

  -- the same test on both sides
  before_cond : {A : Type 0} (P : List ℕ → Type 0) (b : Bool) (x y u v : Got A)
      → (b ≡ true → Before t P x u) → (b ≡ false → Before t P y v) → Before t P (cond b x y) (cond b u v)
  before_cond P true x y u v f g = f refl
  before_cond P false x y u v f g = g refl

  little_before : (k : ℕ) (s : List ℕ) → k ≤ length s → little k (s ++ t) ≡ little k s
  unfolding little
  little_before zero s l = refl
  little_before (suc k) [] l = absurd (not-suc-le-zero l)
  little_before (suc k) (b ∷ s) l = ap (λ (x : ℕ). b + 256 * x) (little_before k s (le_of_suc-le-suc l))

  set_before : (n m : ℕ) (b : Bool) (s : List ℕ) → 8 + m ≤ length s → Before t (Left m) (read_set n b s) (read_set n b (s ++ t))
  unfolding read_set
  set_before n m false s l = (refl, omega arith)
  set_before n m true s l =
      let here : 8 ≤ length s = omega arith in
      let there : 8 ≤ length (s ++ t) = omega (arith, length-append s t) in
      let left : m ≤ length (drop 8 s) = omega (arith, length-drop 8 s) in
      rw (le-ltb (length s) 8 here, le-ltb (length (s ++ t)) 8 there, little_before 8 s here, drop-append-le 8 s t here)
      (before_cond (Left m) (leb (2 ^ n) (little 8 s)) (fault (card 4) s) (got (some (little 8 s)) (drop 8 s)) (fault (card 4) (s ++ t)) (got (some (little 8 s)) (drop 8 s ++ t))
      (λ _. refl) (λ _. (refl, left)))

  fixed_before : (n m : ℕ) (b : Bool) (s : List ℕ) → 1 + m ≤ length s → Before t (Left m) (read_fixed n b s) (read_fixed n b (s ++ t))
  unfolding read_fixed
  fixed_before n m false s l = (refl, omega arith)
  fixed_before n m true [] l = absurd (let z : ⊥ = omega arith in z)
  fixed_before n m true (v ∷ s) l =
      let left : m ≤ length s = omega arith in
      before_cond (Left m) (outside 1 n v) (fault (card 4) (v ∷ s)) (got (some v) s) (fault (card 4) (v ∷ s ++ t)) (got (some v) (s ++ t)) (λ _. refl) (λ _. (refl, left))

  fields_before : (n m b : ℕ) (s : List ℕ) → 17 + m ≤ length s → Before t (Left m) (read_fields n b s) (read_fields n b (s ++ t))
  fields_before n m b s l =
      before_then (Left (9 + m)) (Left m) (read_set n (has b 0) s) (read_set n (has b 0) (s ++ t)) _ (set_before n (9 + m) (has b 0) s (omega arith)) (λ next s₁ l₁.
      before_then (Left (1 + m)) (Left m) (read_set n (has b 1) s₁) (read_set n (has b 1) (s₁ ++ t)) _ (set_before n (1 + m) (has b 1) s₁ (omega arith)) (λ prev s₂ l₂.
      before_then (Left m) (Left m) (read_fixed n (has b 2) s₂) (read_fixed n (has b 2) (s₂ ++ t)) _ (fixed_before n m (has b 2) s₂ l₂) (λ fixed s₃ l₃. (refl, l₃))))

  entry_before : (n m : ℕ) (s : List ℕ) → 18 + m ≤ length s → Before t (Left m) (read_entry n s) (read_entry n (s ++ t))
  unfolding read_entry
  entry_before n m [] l = absurd (let z : ⊥ = omega arith in z)
  entry_before n m (b ∷ s) l =
      before_cond (Left m) (leb 8 b) (fault (card 3) (b ∷ s)) (read_fields n b s) (fault (card 3) (b ∷ s ++ t)) (read_fields n b (s ++ t)) (λ _. refl) (λ _. fields_before n m b s (omega arith))

  entries_before : (k n m : ℕ) (s : List ℕ) → 18 * k + m ≤ length s → Before t (Left m) (read_entries k n s) (read_entries k n (s ++ t))
  unfolding read_entries
  entries_before zero n m s l = (refl, omega arith)
  entries_before (suc k) n m s l =
      before_then (Left (18 * k + m)) (Left m) (read_entry n s) (read_entry n (s ++ t)) _ (entry_before n (18 * k + m) s (omega arith)) (λ e s₁ l₁.
      before_then (Left m) (Left m) (read_entries k n s₁) (read_entries k n (s₁ ++ t)) _ (entries_before k n m s₁ l₁) (λ es s₂ l₂. (refl, l₂)))

  -- a byte is left over, so both refuse it
  end_before : (p : Page) (s : List ℕ) → 1 ≤ length s → Before t (λ _. ⊥) (read_end p s) (read_end p (s ++ t))
  unfolding read_end
  end_before p [] l = absurd (not-suc-le-zero l)
  end_before p (b ∷ s) l = refl

  page_before : (s : List ℕ) → sheet_most < length s → Before t (λ _. ⊥) (read_page s) (read_page (s ++ t))
  unfolding read_page
  page_before [] l = absurd (not-suc-le-zero l)
  page_before (n ∷ s) l =
      before_cond (λ _. ⊥) (outside 2 64 n) (fault (card 2) (n ∷ s)) (read_rest n s) (fault (card 2) (n ∷ s ++ t)) (read_rest n (s ++ t)) (λ _. refl) (λ e.
      let most : n ≤ 64 = (inside 2 64 n e).1 in
      before_then (Left 1) (λ _. ⊥) (read_entries n n s) (read_entries n n (s ++ t)) _ (entries_before n n 1 s (omega arith)) (λ es r l₁. end_before (record { stations = n; entries = es }) r l₁))

  -- a fault stands at the same place in both
  opened_before : (s : List ℕ) (limit : ℕ) (g h : Got Page) → Before t (λ _. ⊥) g h → opened (length s) limit g ≡ opened (length (s ++ t)) limit h
  unfolding opened
  opened_before s limit (got p r) h b = absurd b.1
  opened_before s limit (fault c r) h b =
      let place : length s - length r ≡ length (s ++ t) - length (r ++ t) = omega (arith, length-append s t, length-append r t) in
      rw b (ap (refused c) place)

  open_before : (s : List ℕ) (limit : ℕ) → sheet_most < length s → open_call s limit ≡ open_call (s ++ t) limit
  unfolding open_call
  open_before s limit l = ap (cond (outside 1 64 limit) (refused (card 6) 0)) (opened_before s limit (read_page s) (read_page (s ++ t)) (page_before s l))

-- More first bytes than the longest sheet has are opened with the same number, place and state as the whole input.
pub bytes_suffice : (m : ℕ) (s : List ℕ) (limit : ℕ) → sheet_most < m → open_call (take m s) limit ≡ open_call s limit
bytes_suffice m s limit more = go (dec_le (length s) m)
  where
    go : Dec (length s ≤ m) → open_call (take m s) limit ≡ open_call s limit
    go (yes l) = ap (λ (u : List ℕ). open_call u limit) (take_all m s l)
    go (no l) =
        let size : length (take m s) ≡ m = length-take-le m s (omega arith) in
        open_before (drop m s) (take m s) limit (omega arith) ∙ ap (λ (u : List ℕ). open_call u limit) (take-append-drop m s)

-- 1,154 are enough.
pub first_bytes_suffice : (s : List ℕ) (limit : ℕ) → open_call (take 1154 s) limit ≡ open_call s limit
first_bytes_suffice s limit = bytes_suffice 1154 s limit (omega arith)

-- ---- the longest sheet

-- a longer one is not taken
long_refused : (s : List ℕ) (limit : ℕ) → sheet_most < length s → (open_call s limit).work ≡ blank
unfolding open_call opened
long_refused s limit l =
    cond_elim (λ (o : Opened). o.work ≡ blank) (outside 1 64 limit) (refused (card 6) 0) (opened (length s) limit (read_page s)) (λ _. refl) (λ _. go (read_page s) (page_before [] s l))
  where
    go : (g : Got Page) → Before [] (λ _. ⊥) g (read_page (s ++ [])) → (opened (length s) limit g).work ≡ blank
    go (got p r) b = absurd b.1
    go (fault c r) b = refl

taken_length : (s : List ℕ) (limit : ℕ) → (open_call s limit).answer ≡ card 0 → length s ≤ sheet_most
taken_length s limit e = let most : ¬ (sheet_most < length s) = late (taken_sheet s limit e) in omega arith
  where
    -- it would have no station
    late : TakenSheet s limit → sheet_most < length s → ⊥
    late t l =
        let stations : t.page.stations ≡ 0 = ap (λ (o : Opened). o.work.n) (sym t.opened) ∙ ap (λ (w : Work). w.n) (long_refused s limit l) in
        omega (arith, t.well.two)

-- a record with all its fields
abbrev whole : Entry
whole = record { next = some 0; prev = some 0; fixed = some 1 }

abbrev longest : Page
longest = record { stations = 64; entries = replicate 64 whole }

whole_fits : (k : ℕ) → Each (EntryFits 64) (replicate k whole)
whole_fits zero = tt
whole_fits (suc k) = (record { next = omega arith; prev = omega arith; fixed = omega arith }, whole_fits k)

whole_size : (k : ℕ) → length (entries_bytes (replicate k whole) []) ≡ 18 * k
unfolding entries_bytes entry_bytes
whole_size zero = refl
whole_size (suc k) =
    let rest : List ℕ = 1 ∷ entries_bytes (replicate k whole) [] in
    omega (arith, length_bytes 8 0 (bytes 8 0 rest), length_bytes 8 0 rest, whole_size k)

longest_well : WellFormed longest
longest_well = record { two = omega arith; most = omega arith; count = length-replicate 64 whole; fits = whole_fits 64 }

longest_size : length (bytes_of longest) ≡ sheet_most
unfolding bytes_of
longest_size = omega (arith, whole_size 64)

-- A taken sheet has at most 1,153 bytes, and a page of 64 stations whose records have all their fields has as many.
pub sheet_most_lem : LongestSheet sheet_most
sheet_most_lem =
    record {
      most = taken_length;
      page = longest;
      well = longest_well;
      size = longest_size;
      reached = λ limit lo hi. ap (λ (o : Opened). o.answer) (sheet_taken longest limit longest_well lo hi);
    }
