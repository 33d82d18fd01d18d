-- `loungeegret::words::Loaded::of` meets its contract.
use mathlib.Core.Path.{refl, sym, ◌∙◌}
use Rattle.loungeegret.proofs.words.Loaded.of.Goals as goal

pub returns-then-out_of_range : goal.returns-then-out_of_range
returns-then-out_of_range c = sym c.out_of_range.ensures ∙ c.if-out_of_range.true

pub returns : goal.returns
returns c = record { range = sym c.out_of_range.ensures ∙ c.if-out_of_range.false; rows = c.load_rows.ensures; n = refl; limit = refl; at = c.load_cursor.ensures }
