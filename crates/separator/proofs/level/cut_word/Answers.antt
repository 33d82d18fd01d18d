-- `level::cut_word` meets its contract. Assumes nothing.
use mathlib.Core.Path.{sym, ◌∙◌}
use Rattle.separator.proofs.CutLaws.{cut_some, cut_all}
use Rattle.separator.proofs.level.cut_word.Goals as goal

pub returns-then-contains : goal.returns-then-contains
returns-then-contains c =
    let a = c.args in
    cut_some a.w a.s a.out a.into a.i c.ranges.w.fits c.ranges.s.fits c.requires.1 (sym c.contains.ensures ∙ c.if-contains.true)

pub returns-else-contains : goal.returns-else-contains
returns-else-contains c =
    let a = c.args in
    cut_all a.w a.s a.out a.into a.i c.ranges.w.fits c.ranges.s.fits c.requires.1 (sym c.contains.ensures ∙ c.if-contains.false)
