-- `sheet::read_record` meets its contract. Assumes nothing.
use mathlib.Core.Path.{◌≡◌}
use Prim.Native.Nat.{◌<◌}
use Rattle.std.proofs.lemmas.Grind.{common_steps}
use native.Mathlib.Omega.{arith}
use lib.ListN.{length}
use Rattle.std.proofs.lemmas.Result.{err_from_is_err_and}
use Rattle.sheet.proofs.ReaderLaws.{record_cut, record_unknown, next_fault, prev_fault, fixed_fault, record_whole}
use Rattle.sheet.proofs.reader.read_record.Goals.{Else-is_empty}
use Rattle.sheet.proofs.reader.read_record.Goals as goal

there : (c : Else-is_empty) → 0 < length c.args.part.now
there c = grind (arith, common_steps, c.is_empty.ensures, c.if-is_empty.false)

pub returns-then-is_empty : goal.returns-then-is_empty
returns-then-is_empty c = let e : 0 ≡ length c.args.part.now = grind (arith, common_steps, c.is_empty.ensures, c.if-is_empty.true) in record_cut c.args.n 0 c.args.part.now e

pub returns-then-unknown : goal.returns-then-unknown
returns-then-unknown c = let a = c.args in record_unknown a.n 0 a.part.now (there (goal.at.returns-then-unknown c).Else-is_empty) (omega (arith, c.if-unknown.true))

pub returns-in_err-next : goal.returns-in_err-next
returns-in_err-next c =
    let a = c.args in
    let p = err_from_is_err_and c.from_residual.result c.from_residual.ensures.1 in
    let next = rw c.contains.ensures at c.in_err-next.ensures in
    rw (p.1, p.2) (next_fault a.n 0 a.part.now (there (goal.at.returns-in_err-next c).Else-is_empty) c.if-unknown.false next)

pub returns-in_err-prev : goal.returns-in_err-prev
returns-in_err-prev c =
    let a = c.args in
    let p = err_from_is_err_and c.from_residual-in_err-prev.result c.from_residual-in_err-prev.ensures.1 in
    let next = rw c.contains.ensures at c.in_ok-next.ensures in
    let prev = rw c.contains-2.ensures at c.in_err-prev.ensures in
    rw (p.1, p.2) (prev_fault a.n 0 a.part.now (there (goal.at.returns-in_err-prev c).Else-is_empty) c.if-unknown.false next.0 prev)

pub returns-in_err-fixed : goal.returns-in_err-fixed
returns-in_err-fixed c =
    let a = c.args in
    let p = err_from_is_err_and c.from_residual-in_err-fixed.result c.from_residual-in_err-fixed.ensures.1 in
    let next = rw c.contains.ensures at c.in_ok-next.ensures in
    let prev = rw c.contains-2.ensures at c.in_ok-prev.ensures in
    let fixed = rw c.contains-3.ensures at c.in_err-fixed.ensures in
    rw (p.1, p.2) (fixed_fault a.n 0 a.part.now (there (goal.at.returns-in_err-fixed c).Else-is_empty) c.if-unknown.false next.0 prev.0 fixed)

pub returns : goal.returns
returns c =
    let a = c.args in
    let next = rw c.contains.ensures at c.in_ok-next.ensures in
    let prev = rw c.contains-2.ensures at c.in_ok-prev.ensures in
    let fixed = rw c.contains-3.ensures at c.in_ok-fixed.ensures in
    record_whole a.n 0 a.part.now (there (goal.at.returns c).Else-is_empty) c.if-unknown.false c.in_ok-next.next c.in_ok-prev.prev c.in_ok-fixed.fixed next prev fixed
