-- `sheet::writing::fields_of` meets its contract. Assumes nothing.
use native.Mathlib.Omega.{arith}
use lib.Count.{ones-le, trailing_le}
use Rattle.sheet.proofs.WriteLaws.{entry_free, entry_fixed, entry_next}
use Rattle.sheet.proofs.writing.fields_of.Goals as goal

pub overflow_cast-count : goal.overflow_cast-count
overflow_cast-count c = omega (arith, ones-le 64 c.args.legs c.ranges.legs.fits)

pub returns-then-count-n : goal.returns-then-count-n
returns-then-count-n c = entry_free _ _ c.requires.2 c.if-count-n.true

pub overflow_cast-result : goal.overflow_cast-result
overflow_cast-result c = omega (arith, trailing_le 64 c.args.legs)

pub overflow_add-result : goal.overflow_add-result
overflow_add-result c = omega (arith, trailing_le 64 c.args.legs)

pub returns-then-single : goal.returns-then-single
returns-then-single c =
    entry_fixed _ _ c.requires.2 _ c.requires.1 c.if-count-n.false c.if-single.true (omega arith)

pub returns : goal.returns
returns c = entry_next _ _ c.requires.2 c.if-count-n.false c.if-single.false
