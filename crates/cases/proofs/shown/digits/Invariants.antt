-- Each byte is a digit, or still 0.
use Rattle.std.specs.Str.{IsAscii}
use Rattle.cases.proofs.shown.digits.Given as goal

abbrev pub invariant-loop-i : goal.invariant-loop-i
invariant-loop-i l = IsAscii l.text
