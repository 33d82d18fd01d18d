-- `filter::renew` meets its contract.

use Rattle.filter.proofs.rule.renew.Goals as goal

pub returns-else-struck : goal.returns-else-struck
returns-else-struck c = c.requires.2 c.if-struck.false
