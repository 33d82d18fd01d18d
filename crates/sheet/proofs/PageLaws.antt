-- The page of a table: it is well-formed, and what it gives is the table. Assumes nothing.
use mathlib.Core.Path.{◌≡◌, refl, sym, ap, ◌∙◌}
use mathlib.Core.Logic.{⊎_elim}
use mathlib.Core.Bool.{true, false, not, cond, ◌&&◌, and-true}
use mathlib.Core.List.{List}
use mathlib.Core.Option.{none, some}
use Prim.Native.Nat.{ℕ, suc, ◌-◌, ◌^◌, ◌≤◌, ◌<◌}
use native.Mathlib.Omega.{arith}
use lib.Dec.{eqb}
use lib.ListN.{length}
use borrow.Author.Tests.{eq-eqb, eqb-true, eqb-false}
use Rattle.bitset.specs.Sets.{has, size, first}
use Rattle.bitset.specs.Upto.{row}
use Rattle.bitset.proofs.BoolLaws.{iff, cases, eqb_swap, cond_elim}
use Rattle.bitset.proofs.FirstLaws.{first_at}
use Rattle.bitset.proofs.OnesLaws.{size_same, size_some, size_rest}
use Rattle.bitset.proofs.UptoLaws.{length_upto, get_d_upto, each_upto}
use Rattle.circuit.specs.Legs.{leg, table_of, without}
use Rattle.circuit.specs.State.{stray}
use Rattle.circuit.proofs.LegsLaws.{table_of_ext}
use Rattle.circuit.proofs.StateLaws.{stray_row_lem, stray_self, without_none}
use Rattle.sheet.specs.Layout.{Entry, free, EntryFits, WellFormed, allows, fixes, entry_at, given}
use Rattle.sheet.specs.Write.{entry_of, page_of}

-- ---- the record of a station of n whose legs are w

module _ (n w : ℕ) where
  -- the only leg
  abbrev only : ℕ
  only = first n (has w)

  abbrev fixing : Entry
  fixing = record { next = none; prev = none; fixed = some (suc only) }

  abbrev listing : Entry
  listing = record { next = some w; prev = none; fixed = none }

  -- what holds of the record, by its three forms: one leg is asked for only where not all stand
  pub entry_cases : (P : Entry → Type 0) → (size n w ≡ n - 1 → P free) → ((size n w ≡ n - 1 → ⊥) → size n w ≡ 1 → P fixing) → P listing → P (entry_of n w)
  unfolding entry_of
  entry_cases P all one set =
      cond_elim P (eqb (size n w) (n - 1)) free (cond (eqb (size n w) 1) fixing listing) (λ e. all (eqb-true (size n w) (n - 1) e)) (λ d.
      cond_elim P (eqb (size n w) 1) fixing listing (λ e. one (eqb-false (size n w) (n - 1) d) (eqb-true (size n w) 1 e)) (λ _. set))

  -- the only leg is one
  only_leg : size n w ≡ 1 → (only < n) × (has w only ≡ true)
  only_leg e = let k = size_some n w (omega arith) in first_at n (has w) k.0 k.1 k.2

  -- it has no stray station
  entry_fits : w < 2 ^ n → EntryFits n (entry_of n w)
  entry_fits h =
      entry_cases (EntryFits n) (λ _. record { next = tt; prev = tt; fixed = tt })
      (λ _ e. record { next = tt; prev = tt; fixed = omega (arith, (only_leg e).0) })
      (record { next = h; prev = tt; fixed = tt })

  -- it has no previous set
  entry_prev : (entry_of n w).prev ≡ none
  entry_prev = entry_cases (λ e. e.prev ≡ none) (λ _. refl) (λ _ _. refl) refl

  -- where i has no leg to itself, it allows another station j where the leg stands
  entry_says : (i j : ℕ) → i < n → j < n → has w i ≡ false → eqb i j ≡ false → allows (entry_of n w).next j && fixes (entry_of n w).fixed j ≡ has w j
  entry_says i j li lj own other =
      entry_cases (λ e. allows e.next j && fixes e.fixed j ≡ has w j)
      (λ e. sym (size_rest n w i j e li lj own (eqb_swap j i ∙ other)))
      (λ _ e.
      let it = only_leg e in
      iff (eqb (suc only) (suc j)) (has w j)
      (λ q. let same : only ≡ j = omega (arith, eqb-true (suc only) (suc j) q) in ap (has w) (sym same) ∙ it.1)
      (λ q. eq-eqb (suc only) (suc j) (ap suc (size_same n w only j (omega arith) it.0 lj it.1 q))))
      (and-true (has w j))

-- ---- the page of a table

module _ (n : ℕ) (t : List ℕ) where
  pub entries_length : length (page_of n t).entries ≡ n
  unfolding page_of
  entries_length = length_upto n _

  -- the record of station i
  pub entry_at_lem : (i : ℕ) → i < n → entry_at (page_of n t) i ≡ entry_of n (row t i)
  unfolding page_of entry_at
  entry_at_lem i l = get_d_upto n (λ i. entry_of n (row t i)) free i l

-- of n stations, without stray legs
module _ (n : ℕ) (t : List ℕ) (most : n ≤ 64) (clean : stray n t ≡ false) where
  pub page_well : 2 ≤ n → WellFormed (page_of n t)
  unfolding page_of
  page_well two =
      record {
        two = two;
        most = most;
        count = entries_length n t;
        fits = each_upto (EntryFits n) n (λ i. entry_of n (row t i)) (λ i l. entry_fits n (row t i) (stray_row_lem n t most clean i l));
      }

  -- the page gives the legs that stand
  pub page_given : (i j : ℕ) → i < n → j < n → given (page_of n t) i j ≡ leg t i j
  unfolding given leg
  page_given i j li lj =
      rw (entry_at_lem n t i li, entry_at_lem n t j lj, entry_prev n (row t j))
      (⊎_elim
      (λ (e : eqb i j ≡ true). rw e (sym (ap (leg t i) (sym (eqb-true i j e)) ∙ stray_self n t most clean i li)))
      (λ (e : eqb i j ≡ false). rw (e, and-true (allows (entry_of n (row t i)).next j)) (entry_says n (row t i) i j li lj (stray_self n t most clean i li) e))
      (cases (eqb i j)))

  -- so its table is the table
  pub page_table : length t ≡ 64 → table_of n (given (page_of n t)) ≡ t
  unfolding without
  page_table long =
      table_of_ext n (given (page_of n t)) (λ i j. leg t i j && not false) (λ i j li lj. page_given i j li lj ∙ sym (and-true (leg t i j)))
      ∙ without_none n t (λ i j. false) most clean long (λ i j li lj. refl)
