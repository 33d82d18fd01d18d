-- `loungeegret::words::hand_back` meets its contract: one path where the number is 0, one where it is not.
use native.Mathlib.Omega.{arith}
use mathlib.Core.Path.{sym}
use borrow.Author.Tests.{ne_eqb}
use Rattle.loungeegret.specs.Results.{words_after}
use Rattle.loungeegret.proofs.WordsLaws.{stores_parts}
use Rattle.loungeegret.proofs.words.hand_back.Goals as goal

pub returns-then-taken : goal.returns-then-taken
unfolding words_after
returns-then-taken c =
    let e = c.number-number.ensures in
    let a = c.args in
    (e, rw (sym e, c.if-taken.true, c.store_cursor.ensures, c.store_changed.ensures) (stores_parts a.state.now a.rows.now a.at (omega (arith, c.told-state)) c.told-rows))

pub returns-else-taken : goal.returns-else-taken
unfolding words_after
returns-else-taken c =
    let e = c.number-number.ensures in
    (e, rw (sym e, ne_eqb _ _ c.if-taken.false))
