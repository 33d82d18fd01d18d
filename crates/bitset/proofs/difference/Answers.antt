-- `bitset::difference` meets its contract. Assumes nothing.
use Rattle.bitset.proofs.SetLaws.{diff_set_of}
use Rattle.bitset.proofs.difference.Goals as goal

pub returns : goal.returns
returns c = diff_set_of 64 c.args.a c.args.b c.ranges.a.fits c.ranges.b.fits
