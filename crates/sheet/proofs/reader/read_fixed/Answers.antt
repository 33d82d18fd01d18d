-- `sheet::read_fixed` meets its contract. Assumes nothing.
use mathlib.Core.Path.{sym, ◌∙◌}
use native.Mathlib.Omega.{arith}
use Rattle.sheet.proofs.ReaderLaws.{fixed_absent, fixed_cut, fixed_stray, fixed_whole}
use Rattle.sheet.proofs.reader.read_fixed.Goals as goal

pub returns-then-not-present : goal.returns-then-not-present
returns-then-not-present c =
    let a = c.args in
    rw c.if-not-present.true (fixed_absent a.n a.at a.part.now c.requires.0)

pub returns-then-at-part : goal.returns-then-at-part
returns-then-at-part c =
    let a = c.args in
    rw c.if-not-present.false (fixed_cut a.n a.at a.part.now c.requires.0 c.if-at-part.true)

pub returns-then-outside : goal.returns-then-outside
returns-then-outside c =
    let a = c.args in
    rw c.if-not-present.false
    (fixed_stray a.n a.at a.part.now c.requires.0 (omega (arith, c.if-at-part.false)) (sym c.outside.ensures ∙ c.if-outside.true))

pub returns : goal.returns
returns c =
    let a = c.args in
    let fits = sym c.outside.ensures ∙ c.if-outside.false in
    rw (c.if-not-present.false, c.singleton.ensures)
    (fixed_whole a.n a.at a.part.now c.requires.0 (omega (arith, c.if-at-part.false)) fits)
