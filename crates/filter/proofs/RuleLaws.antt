-- Each rule is sound, each place of the cycle has one that fits, and each that fits has a place. Assumes nothing.
use mathlib.Core.Path.{◌≡◌, refl, sym, ap, ◌∙◌}
use mathlib.Core.Bool.{false}
use mathlib.Core.List.{List}
use Prim.Native.Nat.{ℕ, zero, suc, pred, ◌-◌, ◌≤◌, ◌<◌, zero-le}
use native.Mathlib.Nat.{le_of_suc-le-suc}
use native.Mathlib.Omega.{arith}
use Rattle.circuit.specs.Round.{All}
use Rattle.circuit.specs.Verdict.{Sound}
use Rattle.circuit.specs.State.{last_place}
use Rattle.bitset.proofs.BoolLaws.{clash}
use Rattle.bitset.proofs.OutsideLaws.{inside, not_outside}
use Rattle.filter.specs.declared.rule.Rule.{Rule}
use Rattle.filter.specs.declared.rule.Rule.TheVariants.{Sweep, Chain, Pass}
use Rattle.filter.specs.Pass.{pass}
use Rattle.filter.specs.Rule.{says, stray_seed, rule_at}
use Rattle.filter.proofs.SweepLaws.{sweep_sound}
use Rattle.filter.proofs.ChainLaws.{chain_sound}
use Rattle.filter.proofs.PassLaws.{pass_sound}

-- the index of a seed that is not stray
pub seed_in : (n seed : ℕ) → (1 ≤ seed) × (seed ≤ n) → pred seed < n
seed_in n seed h = omega (arith, h.0, h.1)

-- of a rule that is a pass: the seed's index in the code, and what it says of a table
module _ (r : Rule) (seed : ℕ) (is : r ≡ Pass seed) (n : ℕ) (f : stray_seed n r ≡ false) where
  pub seed_least : 1 ≤ seed
  seed_least = (inside 1 n seed (sym (ap (stray_seed n) is) ∙ f)).0

  pub seed_index : seed - 1 < n
  seed_index = let most = (inside 1 n seed (sym (ap (stray_seed n) is) ∙ f)).1 in omega (arith, seed_least, most)

  pub pass_says : (t : List ℕ) (limit : ℕ) → pass n t limit (seed - 1) ≡ says r n t limit
  unfolding says
  pass_says t limit = let e : seed - 1 ≡ pred seed = omega (arith, seed_least) in ap (pass n t limit) e ∙ ap (λ (r : Rule). says r n t limit) (sym is)

pub says_sound : (r : Rule) (n : ℕ) (t : List ℕ) (limit : ℕ) → n ≤ 64 → stray_seed n r ≡ false → Sound All n t (says r n t limit)
unfolding says
says_sound Sweep n t limit le f = sweep_sound n t le
says_sound Chain n t limit le f = chain_sound n t le
says_sound (Pass seed) n t limit le f = pass_sound n t limit (pred seed) (seed_in n seed (inside 1 n seed f)) le

pub place_fits : (n k : ℕ) → k ≤ last_place n → stray_seed n (rule_at k) ≡ false
place_fits n zero h = refl
place_fits n (suc zero) h = refl
place_fits n (suc (suc r)) h = not_outside 1 n (suc r) (omega arith) (le_of_suc-le-suc h)

pub rule_placed : (n : ℕ) (r : Rule) → stray_seed n r ≡ false → (k : ℕ) × (k ≤ last_place n) × (rule_at k ≡ r)
rule_placed n Sweep f = (0, zero-le, refl)
rule_placed n Chain f = (1, omega arith, refl)
rule_placed n (Pass zero) f = clash f
rule_placed n (Pass (suc s)) f = (suc (suc s), omega (arith, (inside 1 n (suc s) f).1), refl)
