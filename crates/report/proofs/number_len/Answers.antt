-- `report::number_len` meets its contract. Assumes nothing.
use mathlib.Core.Path.{sym, ap}
use native.Mathlib.Omega.{arith}
use lib.ListN.{length}
use Rattle.writer.proofs.NumberLaws.{decimal_one, decimal_two}
use Rattle.report.proofs.number_len.Goals as goal

pub returns-then-x-lt10 : goal.returns-then-x-lt10
returns-then-x-lt10 c = (sym (ap length (decimal_one c.args.x c.if-x-lt10.true)), omega arith)

pub returns-else-x-lt10 : goal.returns-else-x-lt10
returns-else-x-lt10 c = (sym (ap length (decimal_two c.args.x c.if-x-lt10.false c.requires)), omega arith)
