-- `loungeegret::words::store` meets its contract: the five words and then the rows, by `stores`.
use native.Mathlib.Omega.{arith}
use Rattle.loungeegret.proofs.WordsLaws.{stores}
use Rattle.loungeegret.proofs.words.store.Goals as goal

pub returns : goal.returns
returns c =
    let a = c.args in
    rw (c.store_rows.ensures, c.store_cursor.ensures) (stores a.state.now a.work (omega (arith, c.told-state)))
