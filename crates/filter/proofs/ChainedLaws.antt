-- The words that the chain step gathers of a table say what its rule says. Assumes nothing.
use mathlib.Core.Path.{◌≡◌, sym, ap, ◌∙◌, subst}
use mathlib.Core.Logic.{⊎_elim}
use mathlib.Core.Bool.{Bool, true, false, not, ◌&&◌, ◌||◌}
use mathlib.Core.List.{List}
use Prim.Native.Nat.{ℕ, ◌-◌, ◌^◌, ◌≤◌, ◌<◌}
use native.Mathlib.Nat.{lt_of_lt_of_le}
use native.Mathlib.Omega.{arith}
use lib.Bits.{bit_and}
use lib.Count.{ones}
use lib.Dec.{ltb}
use borrow.Author.Tests.{eq-eqb, ltb-true}
use Rattle.bitset.specs.Sets.{has, set_of}
use Rattle.bitset.specs.Upto.{row}
use Rattle.bitset.proofs.BoolLaws.{not_both, or_l, or_r, or_none, cond_true, cond_false}
use Rattle.bitset.proofs.HasLaws.{has_above, member_below}
use Rattle.bitset.proofs.OnesLaws.{ones_pow}
use Rattle.bitset.proofs.QuantLaws.{below?}
use Rattle.bitset.proofs.SetLaws.{set_of_ext, set_of_none, members_below, has_diff, pow_only}
use Rattle.bitset.proofs.UptoLaws.{get_d_upto}
use Rattle.bitset.proofs.WordLaws.{in_and}
use Rattle.circuit.specs.Legs.{leg, col, columns, without}
use Rattle.circuit.specs.State.{stray}
use Rattle.circuit.specs.Verdict.{says_none, leaves}
use Rattle.circuit.specs.inner.Tables.{Square}
use Rattle.circuit.proofs.LegsLaws.{column_leg, columns_square}
use Rattle.circuit.proofs.StateLaws.{stray_row_lem}
use Rattle.filter.specs.Chain.{compulsories, forked, nexts, looped, closes, chain}
use Rattle.filter.specs.declared.chaining.CompulsoryLegs.{CompulsoryLegs}
use Rattle.filter.specs.declared.singles.Singles.{Singles}
use Rattle.filter.specs.inner.Chains.{compulsory_words, CompulsoryOf, closed, ChainsOf, ShortLoop}
use Rattle.filter.specs.inner.Singles.{single, sole_in, SinglesOf}
use Rattle.filter.specs.Trail.{Compulsory}
use Rattle.filter.proofs.SoleLaws.{sole_is, row_many, col_many}
use Rattle.filter.proofs.CompulsoryLaws.{compulsory_rows}
use Rattle.filter.proofs.LoopLaws.{Marks, compulsories_square, closing_table, short_loop}

-- ---- without stations that have one leg only

-- a word with no member or with more than one has no only member
lone : (n w j : ℕ) → w < 2 ^ n → j < n → single w ≡ false → has w j ≡ true → ((i : ℕ) → i < n → has w i ≡ true → i ≡ j) → ⊥
lone n w j h l many e only = not_both (eq-eqb (ones w) 1 (ap ones (pow_only n w j h l e only) ∙ ones_pow j)) many

pub singles_free : (n : ℕ) (t : List ℕ) → n ≤ 64 → stray n t ≡ false → (next : Singles) → SinglesOf n t next → (sole : ℕ) → sole ≡ set_of 64 (sole_in next) → next.once ≡ 0 → sole ≡ 0
    → (i j : ℕ) → Compulsory n t i j → ⊥
unfolding leg
singles_free n t le clean next gn sole alone none_out none_in i j c =
    ⊎_elim
    (lone n (row t i) j (stray_row_lem n t le clean i c.from) c.to (row_many n t le clean next gn none_out i c.from) c.stands)
    (λ only.
    lone n (row (columns n t) j) i (columns_square n t le j c.to) c.from (col_many n t le clean next gn sole alone none_in j c.to) (column_leg n t le i j c.from c.to ∙ c.stands)
    (λ k l e. only k l (sym (column_leg n t le k j l c.to) ∙ e)))
    c.only

-- ---- the verdict

column_none : (n : ℕ) (m : List ℕ) → Square n m → (j : ℕ) → n ≤ j → col n m j ≡ 0
unfolding col leg
column_none n m sq j g = set_of_ext n (λ i. leg m i j) (λ i. false) (λ i l. has_above n (row m i) j (sq i l) g) ∙ set_of_none n

module _ (n : ℕ) (t : List ℕ) where
  abbrev m : List ℕ
  m = compulsories n t

  abbrev s : List ℕ
  s = nexts n m

  pub chain_none : forked n m || looped n s ≡ true → chain n t ≡ says_none t
  unfolding chain
  chain_none e = cond_true (says_none t) (leaves (without n t (closes n m s))) e

  pub chain_left : forked n m ≡ false → looped n s ≡ false → chain n t ≡ leaves (without n t (closes n m s))
  unfolding chain
  chain_left e f = cond_false (says_none t) (leaves (without n t (closes n m s))) (or_none e f)

-- `r` and `words` are the compulsory legs, and no two of them leave or enter one station
pub record Gathered (n : ℕ) (t : List ℕ) (r : CompulsoryLegs) (words : List ℕ) : Type 0 where
  pub most : n ≤ 64
  pub leave_fits : r.leave < 2 ^ 64
  pub enter_fits : r.enter < 2 ^ 64
  pub unforked : forked n (compulsories n t) ≡ false
  pub legs : words ≡ columns n (compulsories n t)
  pub leave : (k : ℕ) → k < 64 → has r.leave k ≡ ltb 0 (row (compulsories n t) k)
  pub enter : (k : ℕ) → k < 64 → has r.enter k ≡ ltb 0 (row (columns n (compulsories n t)) k)

module _ (n : ℕ) (t : List ℕ) (le : n ≤ 64) (clean : stray n t ≡ false) (next : Singles) (gn : SinglesOf n t next) (sole : ℕ) (alone : sole ≡ set_of 64 (sole_in next)) where
  by_words : compulsory_words n t sole ≡ compulsories n t
  by_words = compulsory_rows n t sole le clean (sole_is n t le clean next gn sole alone)

  pub fork_none : forked n (compulsory_words n t sole) ≡ true → chain n t ≡ says_none t
  fork_none e = chain_none n t (or_l (looped n (s n t)) (ap (forked n) (sym by_words) ∙ e))

  pub gathered : (r : CompulsoryLegs) (words : List ℕ) → CompulsoryOf n (compulsory_words n t sole) r words → r.leave < 2 ^ 64 → r.enter < 2 ^ 64 → Gathered n t r words
  gathered r words g hl he =
      let c = subst (λ (u : List ℕ). CompulsoryOf n u r words) by_words g in
      record { most = le; leave_fits = hl; enter_fits = he; unforked = c.unforked; legs = c.legs; leave = c.leave; enter = c.enter }

module _ {n : ℕ} {t : List ℕ} {r : CompulsoryLegs} {words : List ℕ} (g : Gathered n t r words) where
  le : n ≤ 64
  le = g.most

  pub legs_square : Square n words
  legs_square i l = subst (λ (u : List ℕ). row u i < 2 ^ n) (sym g.legs) (columns_square n (m n t) le i l)

  -- stations that have a leg in
  pub part_lt : (x : ℕ) → bit_and r.enter x < 2 ^ n
  part_lt x = members_below n (bit_and r.enter x) (λ j q. station j (in_and r.enter x j q).0)
    where
      station : (j : ℕ) → has r.enter j ≡ true → j < n
      station j q =
          let low = member_below 64 r.enter j g.enter_fits q in
          let some : 0 < row (columns n (m n t)) j = ltb-true 0 (row (columns n (m n t)) j) (sym (g.enter j low) ∙ q) in
          let none : n ≤ j → ⊥ = λ h. omega (arith, some, get_d_upto 64 (col n (m n t)) 0 j low, column_none n (m n t) (compulsories_square n t le) j h) in
          ⊎_elim (λ h. h) (λ h. absurd (none h)) (below? j n)

  module _ (closing : List ℕ) (met : ℕ) (met_fits : met < 2 ^ 64) (found : ChainsOf n (nexts n words) r.enter (bit_and r.enter ((2 ^ 64 - 1) - r.leave)) closing met) (q : Bool)
      (loop : ShortLoop n (nexts n words) (bit_and r.enter ((2 ^ 64 - 1) - met)) q) where
    abbrev p : List ℕ
    p = nexts n (columns n (m n t))

    abbrev ends : ℕ
    ends = bit_and r.enter ((2 ^ 64 - 1) - r.leave)

    abbrev rest : ℕ
    rest = bit_and r.enter ((2 ^ 64 - 1) - met)

    chains : ChainsOf n p r.enter ends closing met
    chains = subst (λ (u : List ℕ). ChainsOf n (nexts n u) r.enter ends closing met) g.legs found

    last : (b : ℕ) → b < n → has ends b ≡ has r.enter b && not (has r.leave b)
    last b l = has_diff 64 r.enter r.leave b g.leave_fits (lt_of_lt_of_le l le)

    enter : Marks n (columns n (m n t)) r.enter
    enter a l = g.enter a (lt_of_lt_of_le l le)

    leave : Marks n (m n t) r.leave
    leave a l = g.leave a (lt_of_lt_of_le l le)

    loop_is : q ≡ looped n (s n t)
    loop_is =
        short_loop n (m n t) le (compulsories_square n t le) g.unforked r.enter r.leave ends enter leave last closing met chains
        rest (λ a l. has_diff 64 r.enter met a met_fits (lt_of_lt_of_le l le)) q (subst (λ (u : List ℕ). ShortLoop n (nexts n u) rest q) g.legs loop)

    pub loop_none : q ≡ true → chain n t ≡ says_none t
    loop_none e = chain_none n t (or_r (forked n (m n t)) (sym loop_is ∙ e))

    pub closed_left : q ≡ false → (left : List ℕ) → left ≡ without n t (closed ends closing) → chain n t ≡ leaves left
    closed_left e left is =
        chain_left n t g.unforked (sym loop_is ∙ e)
        ∙ ap leaves (sym (is ∙ closing_table n (m n t) le (compulsories_square n t le) g.unforked r.enter r.leave ends enter leave last t closing met chains))
