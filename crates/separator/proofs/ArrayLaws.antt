-- A list of words that a loop writes into an array from the front. Assumes nothing.
use mathlib.Core.Path.{◌≡◌, refl, sym, ap, ◌∙◌}
use mathlib.Core.Logic.{◌≢◌, ⊎_elim}
use mathlib.Core.List.{List, [], ◌∷◌, ◌++◌, append-nil}
use Prim.Native.Nat.{ℕ, ◌+◌, ◌≤◌, ◌<◌}
use native.Mathlib.Numerals.{add-one}
use native.Mathlib.Omega.{arith}
use lib.ListN.{length, take, set, replicate, length-set, length-replicate, get_or-replicate, length-take, get_or-eq_default}
use lib.Seq.{get_or-take, get_or-set_other, take-suc-set, append_snoc, length-take-le, ext_get_or}
use Rattle.bitset.specs.Upto.{row}
use Rattle.bitset.proofs.QuantLaws.{below?}
use Rattle.bitset.proofs.UptoLaws.{upto_of, get_d_upto, length_upto}
use Rattle.separator.specs.inner.Reach.{Listed}

-- the k sets written and those still to come are the whole list, and the other words are 0
pub record Writing (whole words : List ℕ) (k : ℕ) (more : List ℕ) : Type 0 where
  pub size : length words ≡ 64
  pub lists : take k words ++ more ≡ whole
  pub clear : (j : ℕ) → k ≤ j → j < 64 → row words j ≡ 0

pub writing_start : (whole : List ℕ) → Writing whole (replicate 64 0) 0 whole
writing_start whole =
    record { size = length-replicate {A = ℕ} 64 0; lists = refl; clear = λ j _ l. get_or-replicate {A = ℕ} 64 j 0 0 l }

module _ {whole words : List ℕ} {k : ℕ} {more : List ℕ} (w : Writing whole words k more) where
  pub writing_turn : (a : ℕ) (rest : List ℕ) → k < 64 → more ≡ a ∷ rest → Writing whole (set words k a) (k + 1) rest
  writing_turn a rest h e =
      record {
        size = length-set words k a ∙ w.size;
        lists =
            ap (λ (m : ℕ). take m (set words k a) ++ rest) (add-one k)
            ∙ ap (λ (xs : List ℕ). xs ++ rest) (take-suc-set words k a (omega (arith, w.size)))
            ∙ append_snoc (take k words) a rest
            ∙ ap (λ (xs : List ℕ). take k words ++ xs) (sym e)
            ∙ w.lists;
        clear = λ j g l. let apart : j ≢ k = λ q. omega arith in get_or-set_other words k j a 0 apart ∙ w.clear j (omega arith) l;
      }

  pub writing_end : k ≤ 64 → more ≡ [] → Listed whole words k
  writing_end h e = record { many = sym (length-take-le k words (omega (arith, w.size))) ∙ ap length all; array = upto_of 64 (row whole) 0 words w.size word }
    where
      all : take k words ≡ whole
      all = sym (append-nil (take k words)) ∙ ap (λ (xs : List ℕ). take k words ++ xs) (sym e) ∙ w.lists

      long : length whole ≤ k
      long = omega (arith, length-take k words, ap length all)

      word : (j : ℕ) → j < 64 → row words j ≡ row whole j
      word j l =
          ⊎_elim
          (λ q. sym (get_or-take k words j 0 q) ∙ ap (λ (xs : List ℕ). row xs j) all)
          (λ q. w.clear j q l ∙ sym (get_or-eq_default whole 0 (omega (arith, long))))
          (below? j k)

-- the list is what the first words are
pub listed_take : {ls words : List ℕ} {count : ℕ} → Listed ls words count → length ls ≤ 64 → take count words ≡ ls
listed_take {ls} {words} {count} L h =
    ext_get_or 0 (take count words) ls (size ∙ L.many) (λ i l.
    let low : i < count = omega (arith, size) in
    get_or-take count words i 0 low ∙ ap (λ (xs : List ℕ). row xs i) L.array ∙ get_d_upto 64 (row ls) 0 i (omega (arith, L.many)))
  where
    size : length (take count words) ≡ count
    size = length-take-le count words (omega (arith, L.many, ap length L.array, length_upto 64 (row ls)))
