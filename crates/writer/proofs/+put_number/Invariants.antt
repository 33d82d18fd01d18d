-- `writer::put_number` calls itself: what falls is the number.
use Rattle.writer.proofs.+put_number.Given as goal

abbrev pub decreases-put_number : goal.decreases-put_number
decreases-put_number l = l.x
