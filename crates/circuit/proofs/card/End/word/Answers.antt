-- `circuit::End::word` meets its contract: by the variant.
use Rattle.std.proofs.Common.{sym, ap, codes}
use Rattle.circuit.specs.declared.card.End.{End}
use Rattle.circuit.specs.Card.{word}
use Rattle.circuit.proofs.card.End.word.Goals as goal

pub returns-in-Open : goal.returns-in-Open
returns-in-Open c = sym (ap (λ (e : End). codes (word e)) c.in-Open.is)

pub returns-in-Stable : goal.returns-in-Stable
returns-in-Stable c = sym (ap (λ (e : End). codes (word e)) c.in-Stable.is)

pub returns-in-None : goal.returns-in-None
returns-in-None c = sym (ap (λ (e : End). codes (word e)) c.in-None.is)
