-- `filter::swept_row` meets its contract.
use mathlib.Core.Path.{sym, ◌∙◌}
use native.Mathlib.Omega.{arith}
use lib.Bits.{bit_and}
use Rattle.filter.proofs.SinglesLaws.{none_left, some_left, all_left}
use Rattle.filter.proofs.sweeping.swept_row.Goals as goal

pub returns-then-own-eq0 : goal.returns-then-own-eq0
returns-then-own-eq0 c =
    let a = c.args in
    λ j l. all_left a.row c.taken.result (bit_and a.row a.sole) j a.next c.taken.type_inv l c.taken.ensures c.if-own-eq0.true

pub returns-then-is_single : goal.returns-then-is_single
returns-then-is_single c =
    let a = c.args in
    λ j l. some_left a.row c.taken.result (bit_and a.row a.sole) j a.next c.taken.type_inv l c.taken.ensures (sym c.is_single.ensures ∙ c.if-is_single.true)

pub returns : goal.returns
returns c =
    let a = c.args in
    λ j l. none_left a.row c.taken.result (bit_and a.row a.sole) j a.next c.taken.type_inv l c.taken.ensures (omega arith) (sym c.is_single.ensures ∙ c.if-is_single.false)
