-- What the rules read from a list of bytes, in the steps in which the code reads it. Assumes nothing.
use mathlib.Core.Path.{◌≡◌, refl, sym, ap, ap₂, ◌∙◌, subst}
use mathlib.Core.Bool.{true, false}
use mathlib.Core.List.{List, [], ◌∷◌}
use mathlib.Core.Option.{Option, none, some}
use Prim.Native.Nat.{ℕ, zero, suc, ◌+◌, ◌-◌, ◌*◌, ◌^◌, ◌≤◌, ◌<◌}
use native.Mathlib.Nat.{le_of_eq, le_refl, lt_of_lt_of_le}
use native.Mathlib.Numerals.{add-one}
use native.Mathlib.Omega.{arith}
use lib.Bits.{bit_and}
use lib.Dec.{eqb}
use lib.ListN.{length, get_or, take, drop, length-drop, drop_of_length-le}
use lib.Pow.{pow_mono}
use lib.Seq.{take_all, drop-cons, drop-drop, drop-length}
use borrow.Author.Tests.{lt-ltb, le-ltb, le-leb, lt-leb, eq-eqb, eqb-true}
use Rattle.bitset.specs.Sets.{has, set_of, outside}
use Rattle.bitset.proofs.BoolLaws.{iff}
use Rattle.bitset.proofs.SetLaws.{set_of_has, set_of_full, set_of_ext, set_of_and}
use Rattle.circuit.specs.declared.card.Answer.{Answer}
use Rattle.circuit.specs.declared.card.Answer.TheVariants.{CutSheet, UnknownBit, StrayStation}
use Rattle.bitset.proofs.OutsideLaws.{inside}
use Rattle.sheet.specs.Layout.{Entry, allows, fixes}
use Rattle.sheet.specs.Open.{Got, little, read_set, read_fixed, read_fields, read_entry}
use Rattle.sheet.specs.inner.Reader.{GotAt, FaultAt, IsField, IsRecord}
use Rattle.std.specs.Prelude.{Result, Ok}
use Rattle.std.specs.Int.{w64, from_le_bytes}
use Rattle.std.specs.Array.{IsFirstChunk}
use Rattle.sheet.specs.declared.reader.Fault.{Fault}
use Rattle.sheet.specs.declared.reader.Record.{Record}
use Rattle.sheet.specs.declared.reader.Stations.{Stations}

-- `&s[at..]`, as the code makes it
pub rest_of : (at : ℕ) (s : List ℕ) → take (length s - at) (drop at s) ≡ drop at s
rest_of at s = take_all (length s - at) (drop at s) (le_of_eq (length-drop at s))

-- ---- 8 bytes as a number

-- the bytes of a longer list that are read
little_take : (k : ℕ) (s : List ℕ) → little k (take k s) ≡ little k s
unfolding little
little_take zero s = refl
little_take (suc k) [] = refl
little_take (suc k) (b ∷ s) = ap (λ (x : ℕ). b + 256 * x) (little_take k s)

-- as the machine reads them
little_le : (s : List ℕ) → from_le_bytes w64 s ≡ little 8 s
unfolding little
little_le [] = refl
little_le (a ∷ []) = omega arith
little_le (a ∷ b ∷ []) = omega arith
little_le (a ∷ b ∷ c ∷ []) = omega arith
little_le (a ∷ b ∷ c ∷ d ∷ []) = omega arith
little_le (a ∷ b ∷ c ∷ d ∷ e ∷ []) = omega arith
little_le (a ∷ b ∷ c ∷ d ∷ e ∷ f ∷ []) = omega arith
little_le (a ∷ b ∷ c ∷ d ∷ e ∷ f ∷ g ∷ []) = omega arith
little_le (a ∷ b ∷ c ∷ d ∷ e ∷ f ∷ g ∷ h ∷ s) = omega arith

pub word_read : {s bs : List ℕ} → IsFirstChunk s bs 8 → from_le_bytes w64 bs ≡ little 8 s
word_read {s} {bs} h = little_le bs ∙ ap (little 8) h.same ∙ little_take 8 s

-- ---- a byte

byte_at : (s : List ℕ) (at : ℕ) → at < length s → drop at s ≡ get_or s at 0 ∷ drop (at + 1) s
byte_at s at h = rw (add-one, drop-cons s at 0)

module _ (n at : ℕ) (s : List ℕ) (le : at ≤ length s) where
  -- ---- a set

  pub set_absent : IsField (read_set n false (drop at s)) allows s (Ok (record { set = 2 ^ 64 - 1; end = at }))
  unfolding read_set
  set_absent = (record { value = none; is = refl; within = le }, set_of_full 64)

  pub set_cut : length s - at < 8 → FaultAt (read_set n true (drop at s)) s CutSheet (length s)
  unfolding read_set
  set_cut h = record { is = rw (length-drop, lt-ltb (length s - at) 8 h, drop-length s); within = le_refl (length s) }

  pub set_stray : 8 ≤ length s - at → 2 ^ n ≤ little 8 (drop at s) → FaultAt (read_set n true (drop at s)) s StrayStation at
  unfolding read_set
  set_stray l h = record { is = rw (length-drop, le-ltb (length s - at) 8 l, le-leb (2 ^ n) (little 8 (drop at s)) h); within = le }

  pub set_whole : n ≤ 64 → 8 ≤ length s - at → little 8 (drop at s) < 2 ^ n
      → IsField (read_set n true (drop at s)) allows s (Ok (record { set = little 8 (drop at s); end = at + 8 }))
  unfolding read_set
  set_whole most l h =
      let v = little 8 (drop at s) in (
        record {
          value = some v;
          is = rw (length-drop, le-ltb (length s - at) 8 l, lt-leb (2 ^ n) v h, drop-drop 8 at s);
          within = omega arith;
        },
        sym (set_of_has 64 v (lt_of_lt_of_le h (pow_mono most))),
      )

  -- ---- the fixed station

  pub fixed_absent : IsField (read_fixed n false (drop at s)) fixes s (Ok (record { set = 2 ^ 64 - 1; end = at }))
  unfolding read_fixed
  fixed_absent = (record { value = none; is = refl; within = le }, set_of_full 64)

  pub fixed_cut : at ≡ length s → FaultAt (read_fixed n true (drop at s)) s CutSheet at
  unfolding read_fixed
  fixed_cut e = record { is = rw (drop_of_length-le s (le_of_eq (sym e))); within = le }

  pub fixed_stray : at < length s → outside 1 n (get_or s at 0) ≡ true → FaultAt (read_fixed n true (drop at s)) s StrayStation at
  unfolding read_fixed
  fixed_stray l h = record { is = rw (byte_at s at l, h); within = le }

  pub fixed_whole : at < length s → outside 1 n (get_or s at 0) ≡ false
      → IsField (read_fixed n true (drop at s)) fixes s (Ok (record { set = set_of 64 (λ j. eqb j (get_or s at 0 - 1)); end = at + 1 }))
  unfolding read_fixed
  fixed_whole l h =
      let b = get_or s at 0 in (
        record { value = some b; is = rw (byte_at s at l, h); within = omega arith },
        set_of_ext 64 (λ j. eqb j (b - 1)) (fixes (some b)) (λ j _. iff (eqb j (b - 1)) (eqb b (suc j)) (to j) (from j)),
      )
    where
      to : (j : ℕ) → eqb j (get_or s at 0 - 1) ≡ true → eqb (get_or s at 0) (suc j) ≡ true
      to j e = eq-eqb (get_or s at 0) (suc j) (omega (arith, eqb-true j (get_or s at 0 - 1) e, (inside 1 n (get_or s at 0) h).0))

      from : (j : ℕ) → eqb (get_or s at 0) (suc j) ≡ true → eqb j (get_or s at 0 - 1) ≡ true
      from j e = eq-eqb j (get_or s at 0 - 1) (omega (arith, eqb-true (get_or s at 0) (suc j) e))

-- ---- a record

module _ (n at : ℕ) (s : List ℕ) where
  abbrev entry : Got Entry
  entry = read_entry n (drop at s)

  pub record_cut : at ≡ length s → FaultAt entry s CutSheet at
  unfolding read_entry
  record_cut e = record { is = rw (drop_of_length-le s (le_of_eq (sym e))); within = le_of_eq e }

  module _ (l : at < length s) where
    -- the map
    abbrev m : ℕ
    m = get_or s at 0

    pub record_unknown : 8 ≤ m → FaultAt entry s UnknownBit at
    unfolding read_entry
    record_unknown h = record { is = rw (byte_at s at l, le-leb 8 m h); within = omega arith }

    module _ (known : m < 8) where
      -- the map is known, and the fields follow
      record_fields : entry ≡ read_fields n m (drop (at + 1) s)
      unfolding read_entry
      record_fields = rw (byte_at s at l, lt-leb 8 m known)

      abbrev Next : Got (Option ℕ)
      Next = read_set n (has m 0) (drop (at + 1) s)

      abbrev Prev : ℕ → Got (Option ℕ)
      Prev e = read_set n (has m 1) (drop e s)

      abbrev Fixed : ℕ → Got (Option ℕ)
      Fixed e = read_fixed n (has m 2) (drop e s)

      pub next_fault : {a : Answer} {k : ℕ} → FaultAt Next s a k → FaultAt entry s a k
      next_fault h = record { is = record_fields ∙ rw h.is; within = h.within }

      pub prev_fault : {e k : ℕ} {a : Answer} → GotAt Next s e → FaultAt (Prev e) s a k → FaultAt entry s a k
      prev_fault p h = record { is = record_fields ∙ rw (p.is, h.is); within = h.within }

      pub fixed_fault : {e f k : ℕ} {a : Answer} → GotAt Next s e → GotAt (Prev e) s f → FaultAt (Fixed f) s a k → FaultAt entry s a k
      fixed_fault p q h = record { is = record_fields ∙ rw (p.is, q.is, h.is); within = h.within }

      pub record_whole : (p q r : Stations) → IsField Next allows s (Ok p) → IsField (Prev p.end) allows s (Ok q) → IsField (Fixed q.end) fixes s (Ok r)
          → IsRecord entry s (Ok (record { next = bit_and p.set r.set; prev = q.set; end = r.end }))
      record_whole p q r f g h = (
        record {
          value = record { next = f.0.value; prev = g.0.value; fixed = h.0.value };
          is = record_fields ∙ rw (f.0.is, g.0.is, h.0.is);
          within = h.0.within;
        },
        ap₂ (λ (x y : ℕ). bit_and x y) f.1 h.1 ∙ set_of_and 64 (allows f.0.value) (fixes h.0.value),
        g.1,
      )

-- a reader's answer, where the part that it was handed and the answer are known
pub record_told : (n : ℕ) {s t : List ℕ} {r q : Result Record Fault} → s ≡ t → r ≡ q → IsRecord (read_entry n s) s r → IsRecord (read_entry n t) t q
record_told n {s} {t} {r} {q} e f h =
    subst (λ (x : Result Record Fault). IsRecord (read_entry n t) t x) f (subst (λ (x : List ℕ). IsRecord (read_entry n x) x r) e h)
