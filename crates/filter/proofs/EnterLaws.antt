-- The loop that gathers the compulsory legs by the stations that they enter. Assumes nothing.
use mathlib.Core.Path.{◌≡◌, refl, sym, ap, ap₂, ◌∙◌}
use mathlib.Core.Logic.{⊎_elim}
use mathlib.Core.Bool.{Bool, true, false, not, ◌&&◌, ◌||◌, or-false, and_comm}
use mathlib.Core.List.{List}
use Prim.Native.Nat.{ℕ, ◌+◌, ◌*◌, ◌%◌, ◌^◌, ◌≤◌, ◌<◌}
use native.Mathlib.Omega.{arith}
use lib.Bits.{bit_and, bit_or, and_le_r}
use lib.Count.{ones}
use lib.Dec.{eqb, ltb}
use lib.ListN.{length, get_or, set, replicate, get_or-replicate, length-replicate, length-set}
use lib.Seq.{get_or-set_same, get_or-set_other}
use borrow.Author.Tests.{eqb-true, eqb-false, eq-eqb, lt-ltb, le-ltb, not-true, not-false}
use Rattle.bitset.specs.Sets.{has, any, set_of, size}
use Rattle.bitset.specs.Upto.{row}
use Rattle.bitset.proofs.BoolLaws.{cases, and_intro, or_l, or_r, or_cases, or_none, or_false_l, or_false_r}
use Rattle.bitset.proofs.HasLaws.{has_zero, has_and, has_pow, member_below}
use Rattle.bitset.proofs.MachineLaws.{shl_one, set_of_take, set_of_skip}
use Rattle.bitset.proofs.OnesLaws.{ones_zero, ones_pos, has_pos, size_ones}
use Rattle.bitset.proofs.QuantLaws.{below?, at_or_below, any_intro, any_none, any_next}
use Rattle.bitset.proofs.SetLaws.{word_has, has_self, some_member}
use Rattle.bitset.proofs.UptoLaws.{length_upto, get_d_upto, upto_cong, upto_of}
use Rattle.bitset.proofs.WordLaws.{in_and}
use Rattle.circuit.specs.Legs.{leg, col, columns}
use Rattle.circuit.specs.inner.Tables.{Square}
use Rattle.filter.specs.Chain.{forked}
use Rattle.filter.specs.inner.Chains.{CompulsoryOf}
use Rattle.filter.specs.inner.Singles.{holds, two}
use Rattle.filter.proofs.OneLaws.{only_bit}
use Rattle.filter.proofs.SinglesLaws.{once_turn}
use Rattle.filter.proofs.SoleLaws.{col_below, col_some, col_two}

-- ---- the columns of the first rows of a table m

columns_start : (m : List ℕ) → replicate 64 0 ≡ columns 0 m
unfolding col set_of
columns_start m = upto_of 64 (col 0 m) 0 (replicate 64 0) (length-replicate {A = ℕ} 64 0) (λ k l. get_or-replicate {A = ℕ} 64 k 0 0 l)

-- one row more
module _ (m : List ℕ) (i : ℕ) where
  -- it has no leg
  pub columns_skip : row m i ≡ 0 → columns i m ≡ columns (i + 1) m
  unfolding col leg
  columns_skip e = upto_cong 64 (col i m) (col (i + 1) m) (λ j l. set_of_skip i (λ k. leg m k j) (ap (λ (x : ℕ). has x j) e ∙ has_zero j))

  -- it has the leg to j alone
  columns_take : (j : ℕ) → j < 64 → row m i ≡ 2 ^ j → set (columns i m) j (bit_or (row (columns i m) j) (2 ^ i)) ≡ columns (i + 1) m
  unfolding col leg
  columns_take j l e =
      upto_of 64 (col (i + 1) m) 0 (set (columns i m) j new) (length-set (columns i m) j new ∙ length_upto 64 (col i m)) (λ k lk. ⊎_elim (here k) (other k lk) (cases (eqb k j)))
    where
      new : ℕ
      new = bit_or (row (columns i m) j) (2 ^ i)

      long : j < length (columns i m)
      long = omega (arith, l, length_upto 64 (col i m))

      here : (k : ℕ) → eqb k j ≡ true → get_or (set (columns i m) j new) k 0 ≡ col (i + 1) m k
      here k q =
          let is : k ≡ j = eqb-true k j q in
          ap (λ (x : ℕ). get_or (set (columns i m) j new) x 0) is ∙ get_or-set_same (columns i m) j new 0 long
          ∙ ap (λ (x : ℕ). bit_or x (2 ^ i)) (get_d_upto 64 (col i m) 0 j l) ∙ set_of_take i (λ k. leg m k j) (ap (λ (x : ℕ). has x j) e ∙ has_self j) ∙ ap (col (i + 1) m) (sym is)

      other : (k : ℕ) → k < 64 → eqb k j ≡ false → get_or (set (columns i m) j new) k 0 ≡ col (i + 1) m k
      other k lk q =
          get_or-set_other (columns i m) j k new 0 (eqb-false k j q) ∙ get_d_upto 64 (col i m) 0 k lk
          ∙ set_of_skip i (λ x. leg m x k) (ap (λ (x : ℕ). has x k) e ∙ has_pow j k ∙ q)

-- a word with one member
pub leg_added : (m words : List ℕ) (i j w : ℕ) → i < 64 → j < 64 → w < 2 ^ 64 → has w j ≡ true → ones w ≤ 1 → row m i ≡ w → words ≡ columns i m
    → set words j (bit_or (row words j) ((1 * 2 ^ i) % 2 ^ 64)) ≡ columns (i + 1) m
leg_added m words i j w li lj h e few is q =
    let one : ones w ≡ 1 = omega (arith, few, ones_pos w (has_pos w j e)) in
    let pow : w ≡ 2 ^ j = eqb-true w (2 ^ j) (only_bit 64 w j h lj ∙ and_intro e (eq-eqb (ones w) 1 one)) in
    ap₂ (λ (u : List ℕ) (x : ℕ). set u j (bit_or (row u j) x)) q (shl_one 64 i li) ∙ columns_take m i j lj (is ∙ pow)

-- ---- the test for a fork

pub free_none : (w set : ℕ) → w ≡ 0 → false ≡ ltb 1 (ones w) || not (eqb (bit_and set w) 0)
free_none w set e =
    sym (or_none (ap (λ (x : ℕ). ltb 1 (ones x)) e ∙ ap (ltb 1) ones_zero ∙ le-ltb 1 0 (omega arith)) (ap not (eq-eqb (bit_and set w) 0 (omega (arith, and_le_r set w)))))

-- ---- the loop, over the rows of a table m

-- the number k joins a set, where it passes
joins : (p : ℕ → Bool) (k w set r : ℕ) → ltb 0 w ≡ p k → r ≡ set_of 64 (λ j. has set j || eqb j k && ltb 0 w) → ((j : ℕ) → j < 64 → has set j ≡ ltb j k && p j)
    → (j : ℕ) → j < 64 → has r j ≡ ltb j (k + 1) && p j
joins p k w set r e gives is j l =
    word_has 64 (λ j. has set j || eqb j k && ltb 0 w) gives j l ∙ ap (λ (b : Bool). b || eqb j k && ltb 0 w) (is j l) ∙ ⊎_elim here other (cases (eqb j k))
  where
    here : eqb j k ≡ true → ltb j k && p j || eqb j k && ltb 0 w ≡ ltb j (k + 1) && p j
    here q =
        let eq : j ≡ k = eqb-true j k q in
        rw (q, le-ltb j k (omega arith), lt-ltb j (k + 1) (omega arith), e, eq)

    other : eqb j k ≡ false → ltb j k && p j || eqb j k && ltb 0 w ≡ ltb j (k + 1) && p j
    other q =
        let ne : j ≡ k → ⊥ = eqb-false j k q in
        let up : ltb j k ≡ ltb j (k + 1) =
        ⊎_elim (λ (l : j < k). lt-ltb j k l ∙ sym (lt-ltb j (k + 1) (omega arith))) (λ (g : k ≤ j). le-ltb j k g ∙ sym (le-ltb j (k + 1) (omega arith))) (below? j k) in
        rw (q, up) (or-false (ltb j (k + 1) && p j))

-- the rows below i are gathered, and no two legs of them leave or enter one station
pub record Gathering (n : ℕ) (m : List ℕ) (i out into : ℕ) (words : List ℕ) : Type 0 where
  pub most : i ≤ n
  pub legs : words ≡ columns i m
  pub leave : (k : ℕ) → k < 64 → has out k ≡ ltb k i && ltb 0 (row m k)
  pub enter : (j : ℕ) → j < 64 → has into j ≡ any i (holds m j)
  pub lone : (k : ℕ) → k < i → ltb 1 (ones (row m k)) ≡ false
  pub apart : (j : ℕ) → j < 64 → two i (holds m j) ≡ false

pub gathering_start : (n : ℕ) (m words : List ℕ) → words ≡ replicate 64 0 → Gathering n m 0 0 0 words
unfolding any
gathering_start n m words e =
    record {
      most = omega arith;
      legs = e ∙ columns_start m;
      leave = λ k l. has_zero k ∙ ap (λ (b : Bool). b && ltb 0 (row m k)) (sym (le-ltb k 0 (omega arith)));
      enter = λ j l. has_zero j;
      lone = λ k l. absurd (omega arith);
      apart = λ j l. refl;
    }

module _ (n : ℕ) (m : List ℕ) (le : n ≤ 64) (sq : Square n m) (i leave enter : ℕ) (words : List ℕ) (g : Gathering n m i leave enter words) where
  module _ (w : ℕ) (low : i < n) (is : w ≡ row m i) where
    pub gathering_turn : ltb 1 (ones w) || not (eqb (bit_and enter w) 0) ≡ false → (leave' : ℕ) → leave' ≡ set_of 64 (λ k. has leave k || eqb k i && ltb 0 w)
        → (words' : List ℕ) → words' ≡ columns (i + 1) m → Gathering n m (i + 1) leave' (bit_or enter w) words'
    gathering_turn free leave' gives words' all =
        record {
          most = omega arith;
          legs = all;
          leave = joins (λ k. ltb 0 (row m k)) i w leave leave' (ap (ltb 0) is) gives g.leave;
          enter = λ j l. once_turn i w enter 0 j (holds m j) (at j) (g.enter j l);
          lone = λ k l. ⊎_elim (λ (e : k ≡ i). ap (λ (x : ℕ). ltb 1 (ones (row m x))) e ∙ ap (λ (x : ℕ). ltb 1 (ones x)) (sym is) ∙ or_false_l (ltb 1 (ones w)) _ free) (g.lone k) (at_or_below (omega (arith, l)));
          apart = λ j l. any_next i (λ k. holds m j k && any k (holds m j)) ∙ or_none (g.apart j l) (none j l);
        }
      where
        at : (j : ℕ) → has w j ≡ holds m j i
        at j = ap (λ (x : ℕ). has x j) is

        empty : bit_and enter w ≡ 0
        empty = eqb-true (bit_and enter w) 0 (not-false (eqb (bit_and enter w) 0) (or_false_r (ltb 1 (ones w)) _ free))

        none : (j : ℕ) → j < 64 → holds m j i && any i (holds m j) ≡ false
        none j l = ap₂ (λ (a b : Bool). a && b) (sym (at j)) (sym (g.enter j l)) ∙ and_comm (has w j) (has enter j) ∙ sym (has_and enter w j) ∙ ap (λ (x : ℕ). has x j) empty ∙ has_zero j

    pub gathering_fork : ltb 1 (ones w) || not (eqb (bit_and enter w) 0) ≡ true → forked n m ≡ true
    unfolding forked
    gathering_fork e = ⊎_elim out into (or_cases (ltb 1 (ones w)) (not (eqb (bit_and enter w) 0)) e)
      where
        fork : ℕ → Bool
        fork k = ltb 1 (size n (row m k)) || ltb 1 (size n (col n m k))

        out : ltb 1 (ones w) ≡ true → any n fork ≡ true
        out h = any_intro n fork i low (or_l (ltb 1 (size n (col n m i))) (ap (ltb 1) (size_ones n (row m i) (sq i low) ∙ ap ones (sym is)) ∙ h))

        fits : w < 2 ^ n
        fits = omega (arith, is, sq i low)

        into : not (eqb (bit_and enter w) 0) ≡ true → any n fork ≡ true
        into h =
            let f = some_member n (bit_and enter w) (λ k q. member_below n w k fits (in_and enter w k q).1) (not-true (eqb (bit_and enter w) 0) h) in
            let j = f.0 in
            let b = in_and enter w j f.2 in
            let pair : two n (holds m j) ≡ true =
            any_intro n (λ k. holds m j k && any k (holds m j)) i low (and_intro (ap (λ (x : ℕ). has x j) (sym is) ∙ b.1) (sym (g.enter j (omega (arith, f.1, le))) ∙ b.0)) in
            any_intro n fork j f.1 (or_r (ltb 1 (size n (row m j))) (ap (ltb 1) (size_ones n (col n m j) (col_below n m j)) ∙ sym (col_two n m j) ∙ pair))

  pub gathering_end : n ≤ i → ((k : ℕ) → n ≤ k → k < 64 → row m k ≡ 0) → CompulsoryOf n m (record { leave = leave; enter = enter }) words
  unfolding forked
  gathering_end end blank =
      let at-end : i ≡ n = omega (arith, end, g.most) in
      record {
        unforked = any_none n (λ k. ltb 1 (size n (row m k)) || ltb 1 (size n (col n m k))) (λ k l. or_none
            (ap (ltb 1) (size_ones n (row m k) (sq k l)) ∙ g.lone k (omega (arith, l)))
            (ap (ltb 1) (size_ones n (col n m k) (col_below n m k)) ∙ sym (col_two n m k) ∙ ap (λ (x : ℕ). two x (holds m k)) (sym at-end) ∙ g.apart k (omega (arith, l))));
        legs = g.legs ∙ ap (λ (x : ℕ). columns x m) at-end;
        leave = λ k l. g.leave k l ∙ ⊎_elim
            (λ (h : k < n). ap (λ (b : Bool). b && ltb 0 (row m k)) (lt-ltb k i (omega arith)))
            (λ (h : n ≤ k). ap (λ (b : Bool). b && ltb 0 (row m k)) (le-ltb k i (omega arith)) ∙ sym (ap (ltb 0) (blank k h l) ∙ le-ltb 0 0 (omega arith))) (below? k n);
        enter = λ j l. g.enter j l ∙ ap (λ (x : ℕ). any x (holds m j)) at-end ∙ sym (ap (ltb 0) (get_d_upto 64 (col n m) 0 j l) ∙ col_some n m j);
      }
