-- The code of one level is the rule: from what `Level::spares` says and the cut rows to `level`. Assumes nothing.
use mathlib.Core.Path.{◌≡◌, sym, ap, subst, ◌∙◌}
use mathlib.Core.Bool.{false}
use mathlib.Core.List.{List}
use Prim.Native.Nat.{ℕ, ◌≤◌}
use Rattle.std.specs.Prelude.{Some, None}
use Rattle.bitset.proofs.BoolLaws.{cond_true, cond_false, cond_elim}
use Rattle.circuit.specs.declared.verdict.Verdict.{Verdict}
use Rattle.circuit.specs.Legs.{without}
use Rattle.circuit.specs.State.{stray}
use Rattle.circuit.specs.inner.Tables.{Columned}
use Rattle.circuit.specs.Verdict.{says_none, leaves}
use Rattle.circuit.proofs.StateLaws.{stray_without}
use Rattle.separator.specs.declared.level.Spares.{Spares}
use Rattle.separator.specs.Level.{marking, passable, struck, level}
use Rattle.separator.specs.inner.Spares.{Cut, SparesOf}
use Rattle.separator.proofs.CutLaws.{cut_rows, cut_cols}

module _ (n : ℕ) (t : List ℕ) (s : ℕ) where
  kept : Verdict
  kept = leaves (without n t (struck n s (marking n t s)))

  pub level_none : SparesOf n t s None → level n t s ≡ says_none t
  unfolding level kept
  level_none S = cond_false kept (says_none t) (sym S.verdict)

  pub level_leaves : {q : Spares} → SparesOf n t s (Some q) → n ≤ 64 → stray n t ≡ false → (u : List ℕ) → Cut s q.out q.into t u → level n t s ≡ leaves u
  unfolding level kept
  level_leaves S most clean u C =
      cond_true kept (says_none t) (sym S.verdict) ∙ ap leaves (sym (cut_rows n t most clean (struck n s (marking n t s)) C S.strikes))

  -- what a level leaves has no stray leg
  pub level_clean : n ≤ 64 → stray n t ≡ false → stray n (level n t s).left ≡ false
  unfolding level kept
  level_clean most clean =
      cond_elim (λ (v : Verdict). stray n v.left ≡ false) (passable n s (marking n t s)) kept (says_none t)
      (λ _. stray_without n t (struck n s (marking n t s)) most clean) (λ _. clean)

-- where the rows and the columns are cut, what is left is a table and its columns again
pub cut_columned : {n s : ℕ} {t cols u v : List ℕ} {q : Spares} → n ≤ 64 → Columned n t cols → SparesOf n t s (Some q)
    → Cut s q.out q.into t u → Cut s q.into q.out cols v → Columned n u v
cut_columned {n} {s} {t} {cols} {u} {v} {q} most T S C D =
    record {
      clean = ap (λ (r : Verdict). stray n r.left) (sym (level_leaves n t s S most T.clean u C)) ∙ level_clean n t s most T.clean;
      len = C.size;
      columns = cut_cols n most C (subst (λ (l : List ℕ). Cut s q.into q.out l v) T.columns D);
    }
