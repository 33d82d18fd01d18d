-- `idle::ends_above` meets its contract. The invariant: the words of the groups below g have ends of their pairs. Assumes nothing.
use mathlib.Core.Path.{◌≡◌}
use lib.ListN.{length}
use Rattle.idle.proofs.PairLaws.{Joining}
use Rattle.idle.proofs.idle.ends_above.Given as goal

abbrev pub invariant-loop-g : goal.invariant-loop-g
invariant-loop-g l = record {
  out_size : length l.fits.out ≡ 64;
  into_size : length l.fits.into ≡ 64;
  joining : Joining l.s l.groups.groups l.g l.fits.out l.fits.into;
}
