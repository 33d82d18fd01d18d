-- `bitset::contains` meets its contract. Assumes nothing.
use Rattle.bitset.proofs.MachineLaws.{shr_test}
use Rattle.bitset.proofs.contains.Goals as goal

pub returns : goal.returns
returns c = shr_test c.args.w c.args.k
