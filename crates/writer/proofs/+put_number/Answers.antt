-- `writer::put_number` meets its contract: the higher digits are the number of a tenth, and the last digit follows them. Assumes nothing.
use mathlib.Core.Path.{sym, ap}
use Prim.Native.Nat.{ℕ}
use native.Mathlib.Omega.{arith}
use borrow.Author.Rules.{rules}
use lib.ListN.{length}
use Rattle.writer.proofs.NumberLaws.{decimal_one, decimal_more, decimal_more_length}
use Rattle.writer.proofs.WriterLaws.{wrote_as, wrote_then}
use Rattle.writer.proofs.+put_number.Goals as goal

-- ---- one digit

pub put_byte-requires : goal.put_byte-requires
put_byte-requires t c = omega (arith, ap length (decimal_one c.args.x (omega arith)))

pub returns-then-x-lt10 : goal.returns-then-x-lt10
returns-then-x-lt10 t c = wrote_as (sym (decimal_one c.args.x (omega arith))) c.put_byte.ensures

-- ---- more digits

pub put_number-at-requires : goal.put_number-at-requires
put_number-at-requires t c =
    let x : ℕ = c.args.x in
    (omega arith, omega (arith, decimal_more_length x (omega arith)))

pub slice_bounds-put_byte-count : goal.slice_bounds-put_byte-count
slice_bounds-put_byte-count t c = omega (arith, decimal_more_length c.args.x (omega arith))

pub slice_bounds-put_byte-start : goal.slice_bounds-put_byte-start
slice_bounds-put_byte-start t c = omega (arith, decimal_more_length c.args.x (omega arith))

pub put_byte-requires-2 : goal.put_byte-requires-2
put_byte-requires-2 t c = let h = decimal_more_length c.args.x (omega arith) in search rules

pub overflow_add-result : goal.overflow_add-result
overflow_add-result t c = omega (arith, decimal_more_length c.args.x (omega arith))

pub returns : goal.returns
returns t c = wrote_as (sym (decimal_more c.args.x (omega arith))) (wrote_then c.put_number-at.ensures c.put_byte-2.ensures)
