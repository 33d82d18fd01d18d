-- `bitset::lowest` meets its contract. Assumes nothing.
use mathlib.Core.Path.{refl}
use Rattle.bitset.proofs.LeastLaws.{trailing_least}
use Rattle.bitset.proofs.lowest.Goals as goal

pub returns : goal.returns
returns c = (refl, trailing_least 64 c.args.w c.requires c.ranges.w.fits)
