-- The first words of a table, copied into empty ones. Assumes nothing.
use Rattle.std.proofs.Common.{◌≡◌, ℕ, ◌+◌, ◌-◌, ◌≤◌, ◌<◌, List, ◌++◌, length, take, drop, sym, ◌∙◌, ⊎_elim, arith, length-append, length-drop}
use Rattle.std.proofs.Math.ListN.{get_or, replicate, get_or-append, get_or-replicate, length-replicate}
use Rattle.std.proofs.lemmas.List.{length-take, get_or-take, get_or-drop, get_or-append_right}
use Rattle.bitset.proofs.QuantLaws.{below?}
use Rattle.bitset.specs.Upto.{upto}
use Rattle.bitset.proofs.UptoLaws.{upto_of}
use Rattle.circuit.specs.inner.Columns.{Corner, first_word}
use Rattle.circuit.proofs.ColumnLaws.{first_in, first_out}

-- n words of the table, and empty words beyond
pub first_copied : (n : ℕ) (t : List ℕ) → n ≤ 64 → length t ≡ 64 → take n t ++ drop n (replicate 64 0) ≡ upto 64 (first_word n t)
first_copied n t le e =
    upto_of 64 (first_word n t) 0 (take n t ++ drop n (replicate 64 0)) (simp (length-append, length-take, length-drop) (omega (arith, length-replicate {A = ℕ} 64 0)))
    (λ k l. ⊎_elim (front k) (rest k l) (below? k n))
  where
    len : length (take n t) ≡ n
    len = omega (arith, length-take n t)

    front : (k : ℕ) → k < n → get_or (take n t ++ drop n (replicate 64 0)) k 0 ≡ first_word n t k
    front k h = get_or-append (take n t) (drop n (replicate 64 0)) 0 k (omega (arith, len)) ∙ get_or-take n t k 0 h ∙ sym (first_in n t k h)

    rest : (k : ℕ) → k < 64 → n ≤ k → get_or (take n t ++ drop n (replicate 64 0)) k 0 ≡ first_word n t k
    rest k l g =
        get_or-append_right (take n t) (drop n (replicate 64 0)) n k 0 len g
        ∙ get_or-drop n (replicate 64 0) (k - n) 0
        ∙ get_or-replicate 64 (n + (k - n)) 0 0 (omega arith)
        ∙ sym (first_out n t k g)

-- where the table is empty beyond, they are all of it
pub all_copied : (n : ℕ) (t : List ℕ) → n ≤ 64 → Corner n t → take n t ++ drop n (replicate 64 0) ≡ t
all_copied n t le C =
    first_copied n t le C.len
    ∙ sym (upto_of 64 (first_word n t) 0 t C.len (λ k l. ⊎_elim (λ (h : k < n). sym (first_in n t k h)) (λ (g : n ≤ k). C.beyond k g l ∙ sym (first_out n t k g)) (below? k n)))
