-- `level::cut` meets its contract. The invariant: the words of the stations passed are cut, and all are as they were where none is another one. Assumes nothing.
use mathlib.Core.Path.{◌≡◌}
use mathlib.Core.Bool.{false}
use Rattle.separator.proofs.CutLaws.{Cutting}
use Rattle.separator.proofs.level.cut.Given as goal

abbrev pub invariant-loop-i : goal.invariant-loop-i
invariant-loop-i l = Cutting l.s l.out l.into l.initial.words l.i-iterator.rest l.words × (l.struck ≡ false → l.words ≡ l.initial.words)
