use Rattle.cases.proofs.DigitLaws.{zeros_ascii}
use Rattle.cases.proofs.shown.digits.Goals as goal

pub loop-i-init : goal.loop-i-init
loop-i-init c = zeros_ascii 32
