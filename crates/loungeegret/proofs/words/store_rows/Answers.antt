-- `loungeegret::words::store_rows` meets its contract.
use native.Mathlib.Omega.{arith}
use mathlib.Core.Path.{sym, ◌∙◌}
use lib.Seq.{length-take-le}
use Rattle.loungeegret.proofs.words.store_rows.Goals as goal

pub copy_from_slice-requires : goal.copy_from_slice-requires
copy_from_slice-requires c = length-take-le 64 c.args.state.now (omega (arith, c.told-state)) ∙ sym c.told-rows
