-- A lent buffer, with and without room for a text. Assumes nothing.
use mathlib.Core.Path.{◌≡◌, refl}
use mathlib.Core.Bool.{true, false}
use mathlib.Core.List.{List, ◌++◌}
use Prim.Native.Nat.{ℕ, ◌≤◌, ◌<◌}
use native.Mathlib.Omega.{arith}
use lib.ListN.{length, drop, length-append, length-drop}
use borrow.Author.Tests.{lt-ltb, le-ltb, ltb-false}
use Rattle.bitset.proofs.BoolLaws.{cond_true, cond_false, cond_elim}
use Rattle.writer.specs.Lent.{short, written}

module _ (text buffer : List ℕ) where
  pub is_short : length buffer < length text → short text buffer ≡ true
  unfolding short
  is_short l = lt-ltb (length buffer) (length text) l

  pub has_room : length text ≤ length buffer → short text buffer ≡ false
  unfolding short
  has_room l = le-ltb (length buffer) (length text) l

  room : short text buffer ≡ false → length text ≤ length buffer
  unfolding short
  room e = ltb-false (length buffer) (length text) e

  pub written_short : length buffer < length text → written text buffer ≡ buffer
  unfolding written
  written_short l = cond_true buffer _ (is_short l)

  pub written_room : length text ≤ length buffer → written text buffer ≡ text ++ drop (length text) buffer
  unfolding written
  written_room l = cond_false buffer (text ++ drop (length text) buffer) (has_room l)

  pub written_length : length (written text buffer) ≡ length buffer
  unfolding written
  written_length =
      cond_elim (λ (l : List ℕ). length l ≡ length buffer) (short text buffer) buffer (text ++ drop (length text) buffer) (λ _. refl)
      (λ e. omega (arith, length-append text (drop (length text) buffer), length-drop (length text) buffer, room e))
