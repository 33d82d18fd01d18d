-- The grammar of the sheet: which byte strings are taken, and what an unknown bit does. Assumes nothing.
use mathlib.Core.Path.{◌≡◌, refl, ap, ◌∙◌}
use mathlib.Core.Bool.{Bool, true, false, not, cond, ◌&&◌}
use mathlib.Core.List.{List, [], ◌∷◌}
use Prim.Native.Nat.{ℕ, ◌+◌, ◌-◌, ◌≤◌, ◌<◌, zero-le}
use native.Mathlib.Omega.{arith}
use lib.ListN.{length, length-replicate}
use borrow.Author.Tests.{eq-eqb}
use Rattle.bitset.specs.Sets.{has, outside}
use Rattle.bitset.proofs.BoolLaws.{not_both, cond_elim}
use Rattle.bitset.proofs.HasLaws.{has_above}
use Rattle.circuit.specs.Card.{number, card}
use Rattle.circuit.specs.State.{rows_of, Good}
use Rattle.bitset.proofs.OutsideLaws.{inside, not_outside}
use Rattle.circuit.proofs.LegsLaws.{length_table_of}
use Rattle.circuit.proofs.StateLaws.{stray_table_of}
use Rattle.sheet.specs.declared.Opened.{Opened}
use Rattle.sheet.specs.Layout.{Entry, Page, entries_bytes, bytes_of, Bytes, EntryFits, WellFormed, allows, fixes, entry_at, given}
use Rattle.bitset.specs.Upto.{Each}
use Rattle.sheet.specs.Open.{Got, got, fault, read_page, refused, opened_page, opened, open_call, TakenSheet}
use Rattle.sheet.proofs.ReaderLaws.{record_unknown}
use Rattle.sheet.proofs.RecordsLaws.{read_fault}
use Rattle.sheet.proofs.OpenLaws.{open_rest}
use Rattle.sheet.proofs.ReadLaws.{read_entries_lem, read_page_lem}
use Rattle.sheet.proofs.ByteLaws.{entries_size, entries_bytes_lem}
use Rattle.sheet.proofs.TakenLaws.{Sure, IsPage, page_sure}

-- The bytes of a well-formed page are taken under a good limit, and the table is exactly that of the leg rule.
pub sheet_taken : (p : Page) (limit : ℕ) → WellFormed p → 1 ≤ limit → limit ≤ 64 → open_call (bytes_of p) limit ≡ opened_page p limit
unfolding open_call opened
sheet_taken p limit f lo hi = rw (not_outside 1 64 limit lo hi, read_page_lem p f)

-- Those bytes are bytes.
pub sheet_bytes : (p : Page) → WellFormed p → Bytes (bytes_of p)
unfolding bytes_of
sheet_bytes p f = (omega (arith, f.most), entries_bytes_lem p.stations p.entries f.most f.fits)

-- Whatever is taken is the bytes of a well-formed page under a good limit, and gives that page.
pub taken_sheet : (s : List ℕ) (limit : ℕ) → (open_call s limit).answer ≡ card 0 → TakenSheet s limit
unfolding open_call opened
taken_sheet s limit = go (outside 1 64 limit) refl (read_page s) refl (page_sure s)
  where
    go : (b : Bool) → outside 1 64 limit ≡ b → (g : Got Page) → read_page s ≡ g → Sure (IsPage s) g
        → (cond b (refused (card 6) 0) (opened (length s) limit g)).answer ≡ card 0 → TakenSheet s limit
    go true e g q h z = let y : number (card 6) ≡ 0 = ap number z in absurd (let w : ⊥ = omega arith in w)
    go false e (fault c r) q h z = let y : number c ≡ 0 = ap number z in absurd (let w : ⊥ = omega arith in w)
    go false e (got p r) q h z =
        let good = inside 1 64 limit e in
        record { page = p; well = h.0; bytes = h.1; limit_least = good.0; limit_most = good.1; opened = rw (e, q) }

no_self : (p : Page) (i : ℕ) → given p i i ≡ false
unfolding given
no_self p i =
    ap (λ (b : Bool). not b && allows (entry_at p i).next i && allows (entry_at p i).prev i && fixes (entry_at p i).fixed i) (eq-eqb i i refl)

-- A taken opening hands back a good work state.
pub opened_good : (s : List ℕ) (limit : ℕ) → (open_call s limit).answer ≡ card 0 → Good (open_call s limit).work
opened_good s limit e =
    let t = taken_sheet s limit e in
    let p = t.page in
    rw t.opened
    (record {
      two = t.well.two;
      most = t.well.most;
      table = stray_table_of p.stations (given p) t.well.most (λ i l. no_self p i);
      limit_least = t.limit_least;
      limit_most = t.limit_most;
      place = zero-le;
    })

read_long : (len limit : ℕ) (g : Got Page) → length (rows_of (opened len limit g).work) ≡ 64
unfolding opened
read_long len limit (fault c s) = length-replicate {A = ℕ} 64 0
read_long len limit (got p s) = length_table_of p.stations (given p)

-- An opening hands back a table of 64 words, taken or refused.
pub opened_long : (s : List ℕ) (limit : ℕ) → length (rows_of (open_call s limit).work) ≡ 64
unfolding open_call
opened_long s limit =
    cond_elim (λ (o : Opened). length (rows_of o.work) ≡ 64) (outside 1 64 limit) (refused (card 6) 0) (opened (length s) limit (read_page s)) (λ _. length-replicate {A = ℕ} 64 0) (λ _. read_long (length s) limit (read_page s))

-- A map byte with one of bits 3 to 7 set, met after well-formed records, is refused with 3 at that byte, whatever follows it.
pub unknown_bit_refused : (n : ℕ) (es : List Entry) (m : ℕ) (rest : List ℕ) (limit : ℕ)
    → 2 ≤ n → n ≤ 64 → length es < n → Each (EntryFits n) es → 8 ≤ m → 1 ≤ limit → limit ≤ 64
    → open_call (n ∷ entries_bytes es (m ∷ rest)) limit ≡ refused (card 3) (1 + length (entries_bytes es []))
unfolding opened
unknown_bit_refused n es m rest limit two most l fits h lo hi =
    let s = entries_bytes es (m ∷ rest) in
    let before = read_entries_lem n es (m ∷ rest) most fits in
    let read = read_fault n (length es) s (m ∷ rest) es before (card 3) (m ∷ rest) l (record_unknown n 0 (m ∷ rest) (omega arith) h).is in
    let place : length (n ∷ s) - length (m ∷ rest) ≡ 1 + length (entries_bytes es []) = omega (arith, entries_size es (m ∷ rest)) in
    open_rest (n ∷ s) limit (not_outside 1 64 limit lo hi) (omega arith) (not_outside 2 64 n two most) ∙ rw read (ap (refused (card 3)) place)

-- such a byte is at least 8
pub unknown_bit : (m k : ℕ) → 3 ≤ k → has m k ≡ true → 8 ≤ m
unknown_bit m k l e =
    let small : m < 8 → ⊥ = λ h. not_both e (has_above 3 m k h l) in
    omega arith
