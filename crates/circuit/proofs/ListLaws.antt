-- The code's list check, entries first and then the walk, is the list check. Assumes nothing.
use mathlib.Core.Path.{◌≡◌}
use mathlib.Core.Bool.{Bool, true, false, not}
use mathlib.Core.List.{List}
use Prim.Native.Nat.{ℕ, ◌<◌}
use native.Mathlib.Numerals.{sub-one}
use native.Mathlib.Omega.{arith}
use lib.ListN.{get_or, length}
use Rattle.bitset.specs.Sets.{outside}
use Rattle.bitset.specs.Tests.{Decides}
use Rattle.bitset.proofs.BoolLaws.{iff, is_false, not_both, and_intro, and_l, and_r}
use Rattle.bitset.proofs.QuantLaws.{all_intro, all_elim}
use Rattle.bitset.specs.Upto.{row}
use Rattle.circuit.specs.Legs.{leg}
use Rattle.circuit.specs.Check.{choice_of, Numbers, ListsRound, is_list}
use Rattle.circuit.specs.inner.Lists.{good_entry, good_entries, Returns}
use Rattle.circuit.proofs.Return.{returning_round, round_returns}
use Rattle.circuit.proofs.CheckLaws.{numbers_intro, numbers_elim, is_list_elim, is_list_intro}

module _ (n : ℕ) (t s : List ℕ) (len : length s ≡ n) where
  entry : ℕ → Bool
  entry i = good_entry n (row t i) (get_or s i 0)

  list_good : ListsRound n t s → good_entries n t s ≡ true
  unfolding good_entries good_entry leg entry
  list_good r = all_intro n entry (λ i l. and_intro (numbers_intro n s r.numbers i l) (r.round.drives i l))

  -- an entry that is not good: no
  pub entries_no : good_entries n t s ≡ false → is_list n t s ≡ false
  entries_no e = is_false (is_list n t s) (λ y. not_both (list_good (is_list_elim n t s len y)) e)

  module _ (e : good_entries n t s ≡ true) where
    pub good_numbers : Numbers n s
    unfolding good_entries good_entry entry
    good_numbers = numbers_elim n s len (λ i l. and_l (not (outside 1 n (get_or s i 0))) _ (all_elim n entry e i l))

    good_legs : (i : ℕ) → i < n → leg t i (choice_of s i) ≡ true
    unfolding good_entries good_entry leg entry
    good_legs i l = and_r (not (outside 1 n (get_or s i 0))) _ (all_elim n entry e i l)

    stays : (i : ℕ) → i < n → choice_of s i < n
    stays i l = omega (arith, good_numbers.low i l, good_numbers.high i l, sub-one (get_or s i 0))

    -- good entries: the walk decides
    pub walk_decides : {b : Bool} → Decides b (Returns n (choice_of s)) → b ≡ is_list n t s
    walk_decides {b} d =
        iff b (is_list n t s)
        (λ q. is_list_intro n t s (record { numbers = good_numbers; round = returning_round stays good_legs (d.holds q) }))
        (λ y. d.found (round_returns (is_list_elim n t s len y).round))
