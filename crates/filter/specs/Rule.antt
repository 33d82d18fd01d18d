-- The rules that strike legs: what each says of a table, and which stands at each place of the cycle. A seed is a station's number, from 1.
use Rattle.std.specs.Prelude.{Bool, false, List, ℕ, zero, suc, pred}
use Rattle.bitset.specs.Sets.{outside}
use Rattle.circuit.specs.declared.verdict.Verdict.{Verdict}
use Rattle.filter.specs.declared.rule.Rule.{Rule}
use Rattle.filter.specs.declared.rule.Rule.TheVariants.{Sweep, Chain, Pass}
use Rattle.filter.specs.Sweep.{sweep}
use Rattle.filter.specs.Chain.{chain}
use Rattle.filter.specs.Pass.{pass}

-- what the rule says of the table t of n stations, with a separator limit
unfoldable pub says : Rule → ℕ → List ℕ → ℕ → Verdict
says Sweep n t limit = sweep n t
says Chain n t limit = chain n t
says (Pass seed) n t limit = pass n t limit (pred seed)

-- stray seed: 0 or above n
abbrev pub stray_seed : ℕ → Rule → Bool
stray_seed n Sweep = false
stray_seed n Chain = false
stray_seed n (Pass seed) = outside 1 n seed

-- the cycle: at place 0 a sweep, at place 1 a chain step, at place r + 1 a pass with seed r
abbrev pub rule_at : ℕ → Rule
rule_at zero = Sweep
rule_at (suc zero) = Chain
rule_at (suc (suc r)) = Pass (suc r)
