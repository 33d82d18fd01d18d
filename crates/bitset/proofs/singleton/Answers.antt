-- `bitset::singleton` meets its contract. Assumes nothing.
use mathlib.Core.Path.{◌∙◌}
use Rattle.bitset.proofs.MachineLaws.{shl_one, pow_set_of}
use Rattle.bitset.proofs.singleton.Goals as goal

pub returns : goal.returns
returns c = shl_one 64 c.args.k c.requires ∙ pow_set_of 64 c.args.k c.requires
