-- `filter::short_loop` meets its contract.
use mathlib.Core.Path.{◌≡◌, refl, ap, ◌∙◌}
use mathlib.Core.Bool.{true}
use Prim.Native.Nat.{ℕ, pred, ◌-◌, ◌<◌}
use native.Mathlib.Nat.{lt_of_lt_of_le}
use native.Mathlib.Omega.{arith}
use lib.Count.{count_trailing_zeros}
use Rattle.bitset.specs.Sets.{has}
use Rattle.bitset.proofs.HasLaws.{member_below}
use Rattle.bitset.proofs.LeastLaws.{trailing_least}
use Rattle.bitset.proofs.SetLaws.{word_has}
use Rattle.filter.specs.Chain.{nexts, joined}
use Rattle.filter.proofs.chaining.short_loop.Goals.{Else-rest-eq0}
use Rattle.filter.proofs.chaining.short_loop.Goals as goal

-- the least of the rest
low : (c : Else-rest-eq0) → (count_trailing_zeros 64 c.args.rest < c.args.n) × (has c.args.rest (count_trailing_zeros 64 c.args.rest) ≡ true)
low c = let a = c.args in
    let z = (trailing_least 64 a.rest (omega arith) c.ranges.rest.fits).member in
    (member_below a.n a.rest (count_trailing_zeros 64 a.rest) c.requires.2 z, z)

pub returns-then-rest-eq0 : goal.returns-then-rest-eq0
returns-then-rest-eq0 c = record { empty = λ _. refl; some = λ p. absurd (omega arith) }

pub overflow_cast-a : goal.overflow_cast-a
overflow_cast-a c = omega (arith, (low c).0)

pub joined_from-requires : goal.joined_from-requires
joined_from-requires c = lt_of_lt_of_le (low c).0 c.requires.1

pub contains-requires : goal.contains-requires
contains-requires c = lt_of_lt_of_le (low (goal.at.contains-requires c).Else-rest-eq0).0 c.requires.1

pub returns : goal.returns
returns c =
    let n = c.args.n in
    let p = nexts n c.args.prev.now in
    let a : ℕ = count_trailing_zeros 64 c.args.rest in
    let l = low (goal.at.returns c).Else-rest-eq0 in
    let most : n - 1 ≡ pred n = omega arith in
    record {
      empty = λ e. absurd (omega arith);
      some = λ _. (a, l.0, l.1, c.contains.ensures ∙ word_has n (joined n p (n - 1) a) (c.joined_from.ensures n c.requires.1 l.0 c.requires.3) a l.0 ∙ ap (λ (f : ℕ). joined n p f a a) most);
    }
