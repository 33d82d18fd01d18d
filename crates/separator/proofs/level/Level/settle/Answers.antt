-- `Level::settle` meets its contract. Assumes nothing.
use native.Mathlib.Omega.{arith}
use Rattle.separator.proofs.SideLaws.{settled_unmarked, settled_assigned}
use Rattle.separator.proofs.level.Level.settle.Goals as goal

pub returns-then-self-some-ne0 : goal.returns-then-self-some-ne0
returns-then-self-some-ne0 c =
    let a = c.args in
    settled_unmarked a.fits.now a.self.now.count a.self.now.s a.some (omega arith) c.ranges.some.fits (omega arith)

pub returns : goal.returns
returns c =
    let a = c.args in
    settled_assigned a.fits.now a.self.now.count a.self.now.s a.some (omega arith) c.ranges.some.fits _ _ (omega arith) c.assign.ensures
