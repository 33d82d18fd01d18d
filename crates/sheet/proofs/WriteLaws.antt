-- The record of a row by its bits that are set, and the records of a table one after another, as the code writes them. Assumes nothing.
use mathlib.Core.Path.{◌≡◌, refl, sym, ap, ap₂, ◌∙◌}
use mathlib.Core.List.{List, [], ◌∷◌, ◌++◌}
use mathlib.Core.Option.{none, some}
use Prim.Native.Nat.{ℕ, zero, suc, ◌+◌, ◌-◌, ◌/◌, ◌%◌, ◌^◌, ◌≤◌, ◌<◌}
use native.Mathlib.Nat.{div-div-eq-div-mul, pow-suc}
use native.Mathlib.Numerals.{add-one}
use native.Mathlib.Omega.{arith}
use lib.Count.{ones, count_trailing_zeros}
use lib.ListN.{length, take, drop, drop_of_length-le}
use lib.Seq.{drop-cons, get_or-take}
use borrow.Author.Tests.{eq-eqb, ne_eqb}
use Rattle.bitset.specs.Upto.{row}
use Rattle.bitset.proofs.MachineLaws.{trailing_first}
use Rattle.bitset.proofs.OnesLaws.{size_ones, ones_zero}
use Rattle.std.specs.Int.{w64, to_le_bytes, bytes_low_first}
use Rattle.sheet.specs.Layout.{free, bytes, entry_at, entry_bytes, entries_bytes}
use Rattle.sheet.specs.Write.{entry_of, page_of}
use Rattle.sheet.proofs.ReadLaws.{length_bytes}
use Rattle.sheet.proofs.ByteLaws.{entry_rest}
use Rattle.sheet.proofs.PageLaws.{entries_length, entry_at_lem}

-- ---- the record of a row

module _ (n w : ℕ) (h : w < 2 ^ n) where
  pub entry_free : ones w ≡ n - 1 → free ≡ entry_of n w
  unfolding entry_of
  entry_free e = rw (size_ones n w h, eq-eqb (ones w) (n - 1) e)

  -- the only leg, by trailing zeros
  pub entry_fixed : (k : ℕ) → n ≤ 64 → (ones w ≡ n - 1 → ⊥) → ones w ≡ 1 → k ≡ suc (count_trailing_zeros 64 w) → record { next = none; prev = none; fixed = some k } ≡ entry_of n w
  unfolding entry_of
  entry_fixed k le d e q =
      let none : w ≡ 0 → ⊥ = λ z. omega (arith, ap ones z, ones_zero) in
      let only = trailing_first le w (omega arith) h in
      rw (size_ones n w h, ne_eqb (ones w) (n - 1) d, eq-eqb (ones w) 1 e, only, q)

  pub entry_next : (ones w ≡ n - 1 → ⊥) → (ones w ≡ 1 → ⊥) → record { next = some w; prev = none; fixed = none } ≡ entry_of n w
  unfolding entry_of
  entry_next d e = rw (size_ones n w h, ne_eqb (ones w) (n - 1) d, ne_eqb (ones w) 1 e)

-- ---- a set, as the machine's 8 bytes

bytes_from : (k i v w : ℕ) → v ≡ w / 256 ^ suc i → bytes k v [] ≡ bytes_low_first (suc i) k w
unfolding bytes
bytes_from zero i v w e = refl
bytes_from (suc k) i v w e =
    let next : v / 256 ≡ w / 256 ^ suc (suc i) = ap (λ (x : ℕ). x / 256) e ∙ div-div-eq-div-mul w (256 ^ suc i) 256 ∙ ap (λ (x : ℕ). w / x) (sym (pow-suc 256 (suc i))) in
    ap₂ (λ (b : ℕ) (l : List ℕ). b ∷ l) (ap (λ (x : ℕ). x % 256) e) (bytes_from k (suc i) (v / 256) w next)

pub set_bytes_le : (w : ℕ) → to_le_bytes w64 w ≡ bytes 8 w []
unfolding bytes
set_bytes_le w = ap (λ (l : List ℕ). w % 256 ∷ l) (sym (bytes_from 7 0 (w / 256) w refl))

-- with a next set it takes 9 bytes
pub next_length : (w : ℕ) → length (entry_bytes (record { next = some w; prev = none; fixed = none }) []) ≡ 9
unfolding entry_bytes
next_length w = omega (arith, length_bytes 8 w [])

-- ---- the records of a table

module _ (n : ℕ) (t : List ℕ) where
  -- the bytes of the records from station i on
  abbrev pub records_from : ℕ → List ℕ
  records_from i = entries_bytes (drop i (page_of n t).entries) []

  -- the record of station i, in a loop over the first n rows, and those after it
  pub records_more : (i : ℕ) → i < n → records_from i ≡ entry_bytes (entry_of n (row (take n t) i)) [] ++ records_from (i + 1)
  unfolding entries_bytes entry_at
  records_more i l =
      let es = (page_of n t).entries in
      rw (get_or-take n t i 0 l, drop-cons es i free (omega (arith, entries_length n t)), entry_at_lem n t i l, add-one i) (entry_rest (entry_of n (row t i)) (entries_bytes (drop (suc i) es) []))

  pub records_all : (i : ℕ) → n ≤ i → records_from i ≡ []
  unfolding entries_bytes
  records_all i g = let past : length (page_of n t).entries ≤ i = omega (arith, entries_length n t) in rw (drop_of_length-le (page_of n t).entries past)
