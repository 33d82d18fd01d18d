-- `loungeegret::words::store_cursor` meets its contract.
use Rattle.loungeegret.proofs.WordsLaws.{byte_digit}
use Rattle.loungeegret.proofs.words.store_cursor.Goals as goal

pub returns : goal.returns
returns c = rw (byte_digit, c.code.ensures)
