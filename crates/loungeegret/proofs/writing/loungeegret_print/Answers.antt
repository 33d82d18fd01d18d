-- `loungeegret::writing::loungeegret_print` meets its contract.
use Rattle.loungeegret.proofs.writing.loungeegret_print.Goals as goal

pub returns : goal.returns
returns c =
    let d = c.print.ensures in
    record { number = rw (← d.0) c.filled_number.ensures.0; bytes = d.1; len = rw (← d.0) c.filled_number.ensures.1 }
