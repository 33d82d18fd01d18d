-- `loungeegret::previewing::end_word` meets its contract.
use mathlib.Core.Path.{sym}
use borrow.Author.Tests.{ne_eqb}
use Rattle.loungeegret.proofs.previewing.end_word.Goals as goal

pub returns-then-number-eq0 : goal.returns-then-number-eq0
returns-then-number-eq0 c = rw (sym c.number.ensures, c.if-number-eq0.true) c.code.ensures

pub returns : goal.returns
returns c = rw (sym c.number.ensures, ne_eqb _ _ c.if-number-eq0.false)
