-- `Level::part` meets its contract. Assumes nothing.
use native.Mathlib.Omega.{arith}
use Rattle.separator.proofs.EndsLaws.{part_bare, part_at}
use Rattle.separator.proofs.level.Level.part.Goals as goal

pub returns-then-m-eq0 : goal.returns-then-m-eq0
returns-then-m-eq0 c = let a = c.args in part_bare a.self.now.parts.now a.m c.if-m-eq0.true

pub returns : goal.returns
returns c = let a = c.args in part_at a.self.now.parts.now a.m (omega arith)
