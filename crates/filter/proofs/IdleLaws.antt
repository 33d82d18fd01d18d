-- The passes that are known to leave the table, from one step of a run to the next. Assumes nothing.
use mathlib.Core.Path.{◌≡◌, sym, ap, subst, ◌∙◌}
use mathlib.Core.Logic.{⊎_elim}
use mathlib.Core.Bool.{true}
use mathlib.Core.List.{List}
use Prim.Native.Nat.{ℕ, zero, suc, ◌-◌, ◌*◌, ◌^◌, ◌%◌, ◌≤◌}
use native.Mathlib.Omega.{arith}
use lib.Bits.{bit_or}
use lib.Dec.{eqb}
use borrow.Author.Tests.{eqb-true}
use Rattle.bitset.specs.Sets.{has}
use Rattle.bitset.proofs.BoolLaws.{clash, or_cases}
use Rattle.bitset.proofs.HasLaws.{has_zero}
use Rattle.bitset.proofs.MachineLaws.{shl_one, has_insert}
use Rattle.circuit.specs.Verdict.{leaves}
use Rattle.filter.specs.Pass.{pass}
use Rattle.filter.specs.Rule.{says, rule_at}
use Rattle.filter.specs.inner.Steps.{IdleSeeds}

-- the pass at a place from 2 on
pass_at : (place : ℕ) → 2 ≤ place → (n : ℕ) (t : List ℕ) (limit : ℕ) → says (rule_at place) n t limit ≡ pass n t limit (place - 2)
unfolding says
pass_at zero l n t limit = absurd (omega arith)
pass_at (suc zero) l n t limit = absurd (omega arith)
pass_at (suc (suc r)) l n t limit = let e : r ≡ suc (suc r) - 2 = omega arith in ap (pass n t limit) e

-- nothing is known
pub idle_none : (n limit : ℕ) (t : List ℕ) → IdleSeeds n limit t 0
idle_none n limit t seed e = clash (sym e ∙ has_zero seed)

module _ (n limit : ℕ) (t : List ℕ) (idle : ℕ) (I : IdleSeeds n limit t idle) where
  -- a pass that is known
  pub idle_says : (place : ℕ) → 2 ≤ place → has idle (place - 2) ≡ true → says (rule_at place) n t limit ≡ leaves t
  idle_says place l e = pass_at place l n t limit ∙ I (place - 2) e

  module _ (u : List ℕ) (same : u ≡ t) where
    -- the table stayed
    pub idle_stay : IdleSeeds n limit u idle
    idle_stay = subst (λ (x : List ℕ). IdleSeeds n limit x idle) (sym same) I

    -- and a pass left it
    pub idle_more : (place : ℕ) → 2 ≤ place → place ≤ 65 → says (rule_at place) n t limit ≡ leaves u → IdleSeeds n limit u (bit_or idle ((1 * 2 ^ (place - 2)) % 2 ^ 64))
    idle_more place l h e seed m =
        let bit : has (bit_or idle (2 ^ (place - 2))) seed ≡ true = ap (λ (w : ℕ). has (bit_or idle w) seed) (sym (shl_one 64 (place - 2) (omega arith))) ∙ m in
        ⊎_elim (idle_stay seed)
        (λ q. ap (pass n u limit) (eqb-true seed (place - 2) q) ∙ ap (λ (x : List ℕ). pass n x limit (place - 2)) same ∙ sym (pass_at place l n t limit) ∙ e)
        (or_cases (has idle seed) (eqb seed (place - 2)) (sym (has_insert idle (place - 2) seed) ∙ bit))
