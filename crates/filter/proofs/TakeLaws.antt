-- The levels of a pass, as the code takes them. Assumes nothing.
use mathlib.Core.Path.{◌≡◌, refl, sym, ap, ◌∙◌}
use mathlib.Core.Logic.{⊎_elim}
use mathlib.Core.Bool.{Bool, true, false, cond, ◌||◌}
use mathlib.Core.List.{List, [], ◌∷◌}
use Prim.Native.Nat.{ℕ, ◌+◌, ◌^◌, ◌≤◌, ◌<◌}
use lib.Count.{ones}
use lib.Dec.{leb}
use lib.ListN.{length, get_or, take}
use borrow.Author.Tests.{le-leb, lt-leb}
use Rattle.bitset.specs.Sets.{size}
use Rattle.bitset.proofs.BoolLaws.{cases, or_false_l, or_false_r, cond_true, cond_false, cond_elim}
use Rattle.bitset.proofs.OnesLaws.{size_ones}
use Rattle.circuit.specs.declared.verdict.Verdict.{Verdict}
use Rattle.circuit.specs.Verdict.{leaves}
use Rattle.separator.specs.Levels.{inner}
use Rattle.separator.specs.Level.{level}
use Rattle.idle.specs.inner.Idle.{Idle}
use Rattle.separator.proofs.InnerLaws.{inner_from, inner_start, inner_step, inner_end}
use Rattle.filter.specs.Pass.{pass_over}
use Rattle.separator.specs.declared.Taken.{Taken}
use Rattle.filter.specs.inner.Steps.{RowsLeft, TableLeft, limited}

-- what was taken of a verdict was taken of an equal one
pub table_as : {u v : Verdict} {r : Taken} {t rows : List ℕ} → u ≡ v → TableLeft u r t rows → TableLeft v r t rows
table_as e L = record { verdict = sym e ∙ L.verdict; same = L.same }

pub rows_as : {n : ℕ} {u v : Verdict} {r : Taken} {t rows : List ℕ} → u ≡ v → RowsLeft n u r t rows → RowsLeft n v r t rows
rows_as e L = record { table = table_as e L.table; clean = L.clean; len = L.len }

-- the verdict leaves the table as it is, or says none of it: nothing is done
pub left_alone : {t : List ℕ} {v : Verdict} {none : Bool} → v ≡ record { none = none; left = t } → TableLeft v (record { none = none; struck = false }) t t
left_alone e = record { verdict = e; same = λ _. refl }

-- ---- one level

module _ (n limit s : ℕ) (t : List ℕ) (fits : s < 2 ^ n) where
  pub level_skipped : limit < ones s → TableLeft (limited n limit s t) (record { none = false; struck = false }) t t
  level_skipped l = left_alone (cond_false (level n t s) (leaves t) (ap (λ (k : ℕ). leb k limit) (size_ones n s fits) ∙ lt-leb (ones s) limit l))

  pub level_taken : ones s ≤ limit → {r : Taken} {rows : List ℕ} → TableLeft (level n t s) r t rows → TableLeft (limited n limit s t) r t rows
  level_taken l L =
      table_as (sym (cond_true (level n t s) (leaves t) (ap (λ (k : ℕ). leb k limit) (size_ones n s fits) ∙ le-leb (ones s) limit l))) L

-- ---- the levels one after the other

pass_cons : (s : ℕ) (ss : List ℕ) (n limit : ℕ) (t : List ℕ) → pass_over (s ∷ ss) n limit t ≡ cond (limited n limit s t).none (limited n limit s t) (pass_over ss n limit (limited n limit s t).left)
unfolding pass_over
pass_cons s ss n limit t = ⊎_elim within over (cases (leb (size n s) limit))
  where
    rule : Verdict → Verdict
    rule v = cond v.none v (pass_over ss n limit v.left)

    within : leb (size n s) limit ≡ true → pass_over (s ∷ ss) n limit t ≡ rule (limited n limit s t)
    within e = cond_true (rule (level n t s)) (pass_over ss n limit t) e ∙ ap rule (sym (cond_true (level n t s) (leaves t) e))

    over : leb (size n s) limit ≡ false → pass_over (s ∷ ss) n limit t ≡ rule (limited n limit s t)
    over e = cond_false (rule (level n t s)) (pass_over ss n limit t) e ∙ ap rule (sym (cond_false (level n t s) (leaves t) e))

-- levels whose rules leave the table
pub pass_over_idle : (ss : List ℕ) (n limit : ℕ) (t : List ℕ) → Idle n t limit ss → pass_over ss n limit t ≡ leaves t
unfolding pass_over
pass_over_idle [] n limit t idle = refl
pass_over_idle (s ∷ ss) n limit t idle =
    pass_cons s ss n limit t
    ∙ ap (λ (v : Verdict). cond v.none v (pass_over ss n limit v.left))
    (cond_elim (λ (v : Verdict). v ≡ leaves t) (leb (size n s) limit) (level n t s) (leaves t) idle.0 (λ _. refl))
    ∙ pass_over_idle ss n limit t idle.1

-- what is left of the pass at level k is the whole
pub record Passing (n limit count : ℕ) (level t : List ℕ) (k : ℕ) (struck : Bool) (rows : List ℕ) : Type 0 where
  pub rest : pass_over (inner_from k count level) n limit rows ≡ pass_over (inner (take count level)) n limit t
  pub same : struck ≡ false → rows ≡ t

module _ (n limit count : ℕ) (level t : List ℕ) (most : count ≤ length level) where
  pub passing_start : Passing n limit count level t 1 false t
  passing_start = record { rest = ap (λ (l : List ℕ). pass_over l n limit t) (sym (inner_start count level most)); same = λ _. refl }

  module _ (k : ℕ) (struck : Bool) (rows : List ℕ) (P : Passing n limit count level t k struck rows) (l : k + 1 < count) (r : Taken) (rows' : List ℕ)
      (T : TableLeft (limited n limit (get_or level k 0) rows) r rows rows') where
    next : pass_over (inner (take count level)) n limit t ≡ cond r.none (record { none = r.none; left = rows' }) (pass_over (inner_from (k + 1) count level) n limit rows')
    next =
        sym P.rest ∙ ap (λ (x : List ℕ). pass_over x n limit rows) (inner_step k count level l most) ∙ pass_cons (get_or level k 0) (inner_from (k + 1) count level) n limit rows
        ∙ ap (λ (v : Verdict). cond v.none v (pass_over (inner_from (k + 1) count level) n limit v.left)) T.verdict

    still : struck || r.struck ≡ false → rows' ≡ t
    still e = T.same (or_false_r struck r.struck e) ∙ P.same (or_false_l struck r.struck e)

    -- the verdict none stops the pass
    pub passing_none : r.none ≡ true → TableLeft (pass_over (inner (take count level)) n limit t) (record { none = true; struck = struck || r.struck }) t rows'
    passing_none e = record { verdict = next ∙ cond_true _ _ e ∙ ap (λ (b : Bool). record { none = b; left = rows' }) e; same = still }

    pub passing_turn : r.none ≡ false → Passing n limit count level t (k + 1) (struck || r.struck) rows'
    passing_turn e = record { rest = sym (next ∙ cond_false _ _ e); same = still }

  pub passing_end : (k : ℕ) (struck : Bool) (rows : List ℕ) → Passing n limit count level t k struck rows → count ≤ k + 1
      → TableLeft (pass_over (inner (take count level)) n limit t) (record { none = false; struck = struck }) t rows
  unfolding pass_over
  passing_end k struck rows P l =
      record { verdict = sym P.rest ∙ ap (λ (x : List ℕ). pass_over x n limit rows) (inner_end k count level l); same = P.same }
