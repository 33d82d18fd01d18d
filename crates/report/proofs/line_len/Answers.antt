-- `report::line_len` meets its contract. Assumes nothing.
use borrow.Author.Rules.{rules}
use Rattle.report.proofs.LineLaws.{line_length}
use Rattle.report.proofs.line_len.Goals as goal

pub returns : goal.returns
returns c = let size = line_length c.args.i c.args.row in search rules
