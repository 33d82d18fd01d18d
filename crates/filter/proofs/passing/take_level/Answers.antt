-- `filter::take_level` meets its contract.
use borrow.Author.Rules.{rules}
use native.Mathlib.Omega.{arith}
use mathlib.Core.Path.{refl}
use Prim.Native.Nat.{◌≤◌}
use lib.Count.{ones, ones-le}
use Rattle.filter.proofs.TakeLaws.{level_skipped, level_taken}
use Rattle.filter.proofs.passing.take_level.Goals as goal

pub overflow_cast-s : goal.overflow_cast-s
overflow_cast-s c = let few : ones c.args.s ≤ 64 = ones-le 64 c.args.s c.ranges.s.fits in search rules

pub returns-then-limit-s : goal.returns-then-limit-s
returns-then-limit-s c =
    (refl, level_skipped _ c.args.limit c.args.s _ c.requires.0 (omega arith), c.requires.1)

pub returns : goal.returns
returns c =
    let e = c.strike.ensures in
    (e.0, level_taken _ c.args.limit c.args.s _ c.requires.0 (omega arith) (record { verdict = e.1; same = e.3 }), e.2)
