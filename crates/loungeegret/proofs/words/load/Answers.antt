-- `loungeegret::words::load` meets its contract: out of range the blank state, else the parts as they were read.
use mathlib.Core.Path.{sym, ◌∙◌}
use Rattle.loungeegret.specs.Words.{loaded}
use Rattle.loungeegret.proofs.words.load.Goals as goal

pub returns-then-out_of_range : goal.returns-then-out_of_range
unfolding loaded
returns-then-out_of_range c = rw (sym c.out_of_range.ensures ∙ c.if-out_of_range.true, c.blank.ensures)

pub returns : goal.returns
unfolding loaded
returns c =
    rw (
      c.new.ensures,
      c.load_cursor-at.ensures,
      c.load_rows-rows.ensures,
      sym c.out_of_range.ensures ∙ c.if-out_of_range.false,
    )
