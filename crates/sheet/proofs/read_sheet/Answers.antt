-- `sheet::read_sheet` meets its contract: a return for each check, and one for the records. Assumes nothing.
use mathlib.Core.Path.{◌≡◌, sym, ◌∙◌}
use mathlib.Core.Bool.{false}
use Prim.Native.Nat.{◌≤◌}
use native.Mathlib.Omega.{arith}
use lib.ListN.{length, get_or}
use borrow.Author.Tests.{eqb-true}
use Rattle.std.proofs.lemmas.Result.{err_from_is_err_and}
use Rattle.bitset.specs.Sets.{outside}
use Rattle.bitset.proofs.OutsideLaws.{inside}
use Rattle.sheet.proofs.OpenLaws.{nonempty, open_limit, open_cut, open_count, open_rest}
use Rattle.sheet.proofs.read_sheet.Goals.{Else-outside, Else-is_empty}
use Rattle.sheet.proofs.read_sheet.Goals as goal

limit_good : (c : Else-outside) → outside 1 64 c.args.limit ≡ false
limit_good c = sym c.outside.ensures ∙ c.if-outside.false

there : (c : Else-is_empty) → 1 ≤ length c.args.sheet.now
there c = nonempty c.args.sheet.now (sym c.is_empty.ensures ∙ c.if-is_empty.false)

pub returns-then-outside : goal.returns-then-outside
returns-then-outside c = sym (open_limit c.args.sheet.now c.args.limit (sym c.outside.ensures ∙ c.if-outside.true))

pub returns-then-is_empty : goal.returns-then-is_empty
returns-then-is_empty c =
    let a = c.args in
    let none : length a.sheet.now ≡ 0 = eqb-true (length a.sheet.now) 0 (sym c.is_empty.ensures ∙ c.if-is_empty.true) in
    sym (open_cut a.sheet.now a.limit (limit_good (goal.at.returns-then-is_empty c).Else-outside) (omega arith))

pub returns-then-outside-2 : goal.returns-then-outside-2
returns-then-outside-2 c =
    let a = c.args in
    sym (open_count a.sheet.now a.limit (limit_good (goal.at.returns-then-outside-2 c).Else-outside) (there (goal.at.returns-then-outside-2 c).Else-is_empty) (sym c.outside-2.ensures ∙ c.if-outside-2.true))

pub read_records-requires : goal.read_records-requires
read_records-requires c =
    let n = get_or c.args.sheet.now 0 0 in
    ((inside 2 64 n (sym c.outside-2.ensures ∙ c.if-outside-2.false)).1, there (goal.at.read_records-requires c).Else-is_empty, c.requires)

pub returns-in_err-read_records : goal.returns-in_err-read_records
returns-in_err-read_records c =
    let a = c.args in
    let p = err_from_is_err_and c.from_residual.result c.from_residual.ensures.1 in
    rw (p.1, p.2) (c.in_err-read_records.ensures a.limit
    ∙ sym (open_rest a.sheet.now a.limit (limit_good (goal.at.returns-in_err-read_records c).Else-outside) (there (goal.at.returns-in_err-read_records c).Else-is_empty) (sym c.outside-2.ensures ∙ c.if-outside-2.false)))

pub returns : goal.returns
returns c =
    let a = c.args in
    c.in_ok-read_records.ensures a.limit
    ∙ sym (open_rest a.sheet.now a.limit (limit_good (goal.at.returns c).Else-outside) (there (goal.at.returns c).Else-is_empty) (sym c.outside-2.ensures ∙ c.if-outside-2.false))
