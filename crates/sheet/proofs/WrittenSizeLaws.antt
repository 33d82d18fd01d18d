-- How long the sheet of a good work state is: at most 577 bytes, and one has as many. Assumes nothing.
use mathlib.Core.Path.{◌≡◌, ap, ◌∙◌, subst}
use mathlib.Core.List.{List, [], ◌∷◌}
use Prim.Native.Nat.{ℕ, ◌+◌, ◌*◌, ◌≤◌, ◌<◌, zero-le}
use native.Mathlib.Nat.{le_refl}
use native.Mathlib.Omega.{arith}
use lib.ListN.{length, replicate, get_or-replicate}
use lib.Pow.{pow_pos}
use Rattle.bitset.specs.Sets.{has, size}
use Rattle.bitset.specs.Upto.{upto, row, Each}
use Rattle.bitset.proofs.BoolLaws.{not_both}
use Rattle.bitset.proofs.HasLaws.{has_zero}
use Rattle.bitset.proofs.OnesLaws.{size_ones, ones_zero}
use Rattle.bitset.proofs.UptoLaws.{length_upto, each_upto}
use Rattle.circuit.specs.declared.state.Work.{Work}
use Rattle.circuit.specs.Legs.{leg}
use Rattle.circuit.specs.State.{fresh, rows_of, Good}
use Rattle.circuit.proofs.StateLaws.{legs_stray}
use Rattle.sheet.specs.Layout.{Entry, entry_bytes, entries_bytes, bytes_of}
use Rattle.sheet.specs.Write.{entry_of, page_of, sheet_of}
use Rattle.sheet.specs.Sizes.{written_most, LongestWritten}
use Rattle.sheet.proofs.ReadLaws.{length_bytes}
use Rattle.sheet.proofs.ByteLaws.{entry_size}
use Rattle.sheet.proofs.PageLaws.{entry_cases}

-- the record has lo to hi bytes
abbrev Sized : ℕ → ℕ → Entry → Type 0
Sized lo hi e = (lo ≤ length (entry_bytes e [])) × (length (entry_bytes e []) ≤ hi)

-- k records of lo to hi bytes have lo * k to hi * k
entries_sized : (lo hi : ℕ) (es : List Entry) → Each (Sized lo hi) es
    → (lo * length es ≤ length (entries_bytes es [])) × (length (entries_bytes es []) ≤ hi * length es)
unfolding entries_bytes
entries_sized lo hi [] f = omega arith
entries_sized lo hi (e ∷ es) f = omega (arith, entry_size e (entries_bytes es []), f.0, entries_sized lo hi es f.1)

-- and so the sheet, with its first byte
sheet_sized : (lo hi : ℕ) (w : Work) → ((i : ℕ) → i < w.n → Sized lo hi (entry_of w.n (row (rows_of w) i)))
    → (1 + lo * w.n ≤ length (sheet_of w)) × (length (sheet_of w) ≤ 1 + hi * w.n)
unfolding sheet_of bytes_of page_of
sheet_sized lo hi w f =
    let n = w.n in
    let entry : ℕ → Entry = λ i. entry_of n (row (rows_of w) i) in
    subst (λ (k : ℕ). (1 + lo * k ≤ length (sheet_of w)) × (length (sheet_of w) ≤ 1 + hi * k)) (length_upto n entry)
    (omega (arith, entries_sized lo hi (upto n entry) (each_upto (Sized lo hi) n entry f)))

-- a record has at most 9 bytes: the map, and none, one or 8
pub entry_most : (n w : ℕ) → length (entry_bytes (entry_of n w) []) ≤ 9
unfolding entry_bytes
entry_most n w =
    entry_cases n w (λ e. length (entry_bytes e []) ≤ 9) (λ _. omega arith) (λ _ _. omega arith) (omega (arith, length_bytes 8 w []))

-- The sheet of n stations has one byte, and at most 9 for each.
pub sheet_length : (w : Work) → length (sheet_of w) ≤ 1 + 9 * w.n
sheet_length w = (sheet_sized 0 9 w (λ i l. (zero-le, entry_most w.n (row (rows_of w) i)))).1

-- ---- the longest

-- 64 stations without a leg
abbrev empty : Work
empty = fresh 64 (replicate 64 0) 64

empty_row : (i : ℕ) → i < 64 → row (rows_of empty) i ≡ 0
empty_row i l = get_or-replicate 64 i 0 0 l

empty_good : Good empty
unfolding leg
empty_good =
    record {
      two = omega arith;
      most = omega arith;
      table = legs_stray 64 (rows_of empty) (λ i j l e. absurd (not_both e (ap (λ (w : ℕ). has w j) (empty_row i l) ∙ has_zero j)));
      limit_least = omega arith;
      limit_most = omega arith;
      place = zero-le;
    }

-- a station without a leg has an empty next set
empty_entry : length (entry_bytes (entry_of 64 0) []) ≡ 9
unfolding entry_bytes entry_of
empty_entry = let legs : size 64 0 ≡ 0 = size_ones 64 0 (pow_pos 64) ∙ ones_zero in rw legs (omega (arith, length_bytes 8 0 []))

empty_sized : (i : ℕ) → i < 64 → Sized 9 9 (entry_of 64 (row (rows_of empty) i))
empty_sized i l = rw (empty_row i l, empty_entry) (le_refl 9, le_refl 9)

-- The sheet of a good state has at most 577 bytes, and that of 64 stations without a leg has as many.
pub written_most_lem : LongestWritten written_most
written_most_lem =
    record {
      most = λ w g. omega (arith, sheet_length w, g.most);
      work = empty;
      good = empty_good;
      reached = omega (arith, sheet_sized 9 9 empty empty_sized);
    }
