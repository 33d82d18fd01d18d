-- How long the station lines are: the full table of 64 stations has the longest, 11,776 bytes. Assumes nothing.
use mathlib.Core.Path.{◌≡◌, refl, sym, ap, ◌∙◌}
use mathlib.Core.Logic.{◌≢◌}
use mathlib.Core.Bool.{Bool, true, false, not, cond}
use mathlib.Core.List.{List, ◌++◌}
use Prim.Native.Nat.{ℕ, zero, suc, ◌+◌, ◌≤◌, ◌<◌, zero-le}
use native.Mathlib.Nat.{le_refl}
use native.Mathlib.Omega.{arith}
use lib.Dec.{eqb}
use lib.ListN.{length, length-append}
use borrow.Author.Tests.{eq-eqb, ne_eqb}
use Rattle.bitset.specs.Sets.{bit, digit, has, set_of}
use Rattle.bitset.specs.Upto.{upto, row}
use Rattle.bitset.proofs.BoolLaws.{clash}
use Rattle.writer.specs.Text.{digits, decimal}
use Rattle.circuit.specs.declared.state.Work.{Work}
use Rattle.circuit.specs.Legs.{leg, table_of, full_table}
use Rattle.circuit.specs.State.{rows_of, fresh, Good}
use Rattle.circuit.proofs.LegsLaws.{leg_table_of}
use Rattle.circuit.proofs.StateLaws.{stray_legs, stray_table_of}
use Rattle.report.specs.Lines.{leg_to, legs_to, line_of, lines_from, text}
use Rattle.report.specs.Sizes.{full_text, text_most, LongestText}
use Rattle.report.proofs.LineLaws.{line_length}

-- ---- more legs, more stations: longer lines

maybe_within : (b c : Bool) (x y z : List ℕ) → (b ≡ true → c ≡ true) → length y ≤ length z → length (cond b (x ++ y) y) ≤ length (cond c (x ++ z) z)
maybe_within true true x y z f l = omega (arith, length-append x y, length-append x z)
maybe_within true false x y z f l = clash (sym (f refl))
maybe_within false true x y z f l = omega (arith, length-append x z)
maybe_within false false x y z f l = l

legs_within : (m k w v : ℕ) → ((j : ℕ) → has w j ≡ true → has v j ≡ true) → length (legs_to m k w) ≤ length (legs_to m k v)
unfolding legs_to
legs_within zero k w v f = zero-le
legs_within (suc m) k w v f = maybe_within (has w k) (has v k) (leg_to k) (legs_to m (suc k) w) (legs_to m (suc k) v) (f k) (legs_within m (suc k) w v f)

lines_within : (m p k : ℕ) (t u : List ℕ) → m ≤ p → ((i j : ℕ) → i < k + m → leg t i j ≡ true → leg u i j ≡ true) → length (lines_from m k t) ≤ length (lines_from p k u)
unfolding lines_from leg
lines_within zero p k t u l f = zero-le
lines_within (suc m) zero k t u l f = absurd (omega arith)
lines_within (suc m) (suc p) k t u l f =
    let line = legs_within 64 0 (row t k) (row u k) (λ j. f k j (omega arith)) in
    let rest = lines_within m p (suc k) t u (omega arith) (λ i j g. f i j (omega arith)) in
    omega (arith, length-append (line_of k (row t k)) (lines_from m (suc k) t), length-append (line_of k (row u k)) (lines_from p (suc k) u), line_length k (row t k), line_length k (row u k))

-- ---- the full table

full_stands : (n i j : ℕ) → n ≤ 64 → i < n → j < n → i ≢ j → leg (full_table n) i j ≡ true
unfolding full_table
full_stands n i j le a b d = leg_table_of n (λ i j. not (eqb i j)) i j le a b ∙ ap not (ne_eqb i j d)

-- a good state's lines are no longer than those of the full table of as many stations, or of more
text_within : (w : Work) (q : ℕ) → Good w → w.n ≤ q → q ≤ 64 → length (text w) ≤ length (full_text q)
unfolding text
text_within w q g l h = lines_within w.n q 0 (rows_of w) (full_table q) l there
  where
    there : (i j : ℕ) → i < 0 + w.n → leg (rows_of w) i j ≡ true → leg (full_table q) i j ≡ true
    there i j a e =
        let legal = stray_legs w.n (rows_of w) g.table i j (omega (arith, g.most)) e in
        full_stands q i j h (omega arith) (omega (arith, legal.1)) (λ p. legal.2 (sym p))

-- Of n stations the full table has the longest lines.
pub text_most_lem : (w : Work) → Good w → length (text w) ≤ length (full_text w.n)
text_most_lem w g = text_within w w.n g (le_refl w.n) g.most

full_size : length (full_text 64) ≡ text_most
unfolding bit digit has set_of upto table_of full_table digits decimal legs_to line_of lines_from
full_size = refl

-- No good state has longer station lines than the full table of 64 stations.
pub longest_text : LongestText text_most
unfolding text full_table
longest_text =
    record {
      most = λ w g. omega (arith, text_within w 64 g g.most (le_refl 64), full_size);
      work = fresh 64 (full_table 64) 64;
      good =
          record {
            two = omega arith;
            most = omega arith;
            table = stray_table_of 64 (λ i j. not (eqb i j)) (omega arith) (λ i l. ap not (eq-eqb i i refl));
            limit_least = omega arith;
            limit_most = omega arith;
            place = zero-le;
          };
      reached = full_size;
    }

pub text_bound : (w : Work) → Good w → length (text w) ≤ 11776
text_bound = longest_text.most
