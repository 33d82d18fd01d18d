-- The bytes of records: that they stand before the rest, how many there are, and that each is a byte. Assumes nothing.
use mathlib.Core.Path.{◌≡◌, refl, ap, ◌∙◌}
use mathlib.Core.Bool.{Bool}
use mathlib.Core.List.{List, [], ◌∷◌, ◌++◌}
use mathlib.Core.Option.{Option, none, some}
use Prim.Native.Nat.{ℕ, zero, suc, ◌+◌, ◌/◌, ◌%◌, ◌≤◌, ◌<◌}
use native.Mathlib.Omega.{arith}
use lib.ListN.{length, length-append}
use Rattle.bitset.proofs.SetLaws.{digit_lt}
use Rattle.sheet.specs.Layout.{Entry, bytes, present, set_bytes, fixed_bytes, map_of, entry_bytes, entries_bytes, Bytes, FixedFits, EntryFits}
use Rattle.bitset.specs.Upto.{Each}

-- ---- the bytes of a record, and after them the rest

bytes_rest : (k v : ℕ) (s rest : List ℕ) → bytes k v (s ++ rest) ≡ bytes k v s ++ rest
unfolding bytes
bytes_rest zero v s rest = refl
bytes_rest (suc k) v s rest = ap (λ (l : List ℕ). v % 256 ∷ l) (bytes_rest k (v / 256) s rest)

set_rest : (o : Option ℕ) (s rest : List ℕ) → set_bytes o (s ++ rest) ≡ set_bytes o s ++ rest
set_rest none s rest = refl
set_rest (some v) s rest = bytes_rest 8 v s rest

fixed_rest : (o : Option ℕ) (rest : List ℕ) → fixed_bytes o rest ≡ fixed_bytes o [] ++ rest
fixed_rest none rest = refl
fixed_rest (some v) rest = refl

pub entry_rest : (e : Entry) (rest : List ℕ) → entry_bytes e rest ≡ entry_bytes e [] ++ rest
unfolding entry_bytes
entry_rest e rest =
    let f = fixed_bytes e.fixed [] in
    rw (fixed_rest e.fixed rest, set_rest e.prev f rest, set_rest e.next (set_bytes e.prev f) rest)

-- ---- how many

pub entry_size : (e : Entry) (r : List ℕ) → length (entry_bytes e r) ≡ length (entry_bytes e []) + length r
entry_size e r = ap length (entry_rest e r) ∙ length-append (entry_bytes e []) r

pub entries_size : (es : List Entry) (r : List ℕ) → length (entries_bytes es r) ≡ length (entries_bytes es []) + length r
unfolding entries_bytes
entries_size [] r = omega arith
entries_size (e ∷ es) r = omega (arith, entry_size e (entries_bytes es r), entry_size e (entries_bytes es []), entries_size es r)

-- ---- each is a byte

number_bytes : (k v : ℕ) (r : List ℕ) → Bytes r → Bytes (bytes k v r)
unfolding bytes
number_bytes zero v r h = h
number_bytes (suc k) v r h = (omega arith, number_bytes k (v / 256) r h)

set_bytes_lem : (o : Option ℕ) (r : List ℕ) → Bytes r → Bytes (set_bytes o r)
set_bytes_lem none r h = h
set_bytes_lem (some v) r h = number_bytes 8 v r h

fixed_bytes_lem : (n : ℕ) (o : Option ℕ) (r : List ℕ) → n ≤ 64 → FixedFits n o → Bytes r → Bytes (fixed_bytes o r)
fixed_bytes_lem n none r le f h = h
fixed_bytes_lem n (some v) r le f h = (omega (arith, f), h)

map_lt : (a b c : Bool) → map_of a b c < 256
unfolding map_of
map_lt a b c = omega (arith, digit_lt a, digit_lt b, digit_lt c)

pub entries_bytes_lem : (n : ℕ) (es : List Entry) → n ≤ 64 → Each (EntryFits n) es → Bytes (entries_bytes es [])
unfolding entries_bytes entry_bytes
entries_bytes_lem n [] le f = tt
entries_bytes_lem n (e ∷ es) le f = (
  map_lt (present e.next) (present e.prev) (present e.fixed),
  set_bytes_lem e.next _ (set_bytes_lem e.prev _ (fixed_bytes_lem n e.fixed _ le f.0.fixed (entries_bytes_lem n es le f.1))),
)
